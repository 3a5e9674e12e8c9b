-- `kroot::block_short` meets its contract: the widths are in range, and the tests are the definition's.
use native.Mathlib.Omega.{arith}
use Rattle.rules.proofs.Bounds.{key_width_bound, tag_width_bound}
use Rattle.kroot.proofs.block_short.Goals as goal

pub overflow_mul-used : goal.overflow_mul-used
overflow_mul-used c = omega (arith, c.key_width.ensures, key_width_bound c.ks.result)

pub overflow_add-used : goal.overflow_add-used
overflow_add-used c = omega (arith, c.tag_width.ensures, tag_width_bound c.ms.result, c.key_width.ensures, key_width_bound c.ks.result)

pub overflow_add-used-2 : goal.overflow_add-used-2
overflow_add-used-2 c = omega (arith, c.tag_width.ensures, tag_width_bound c.ms.result, c.key_width.ensures, key_width_bound c.ks.result)
