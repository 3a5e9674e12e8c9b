-- `kroot::chain_with` meets its contract: each field is its definition.
use native.Mathlib.Omega.{arith}
use Rattle.rules.specs.Kroot as S
use Rattle.rules.proofs.Bounds.{key_width_bound, tag_width_bound}
use Rattle.kroot.proofs.chain_with.Goals as goal

pub overflow_mul-width : goal.overflow_mul-width
overflow_mul-width c =
    omega (arith, c.key_width-width.ensures, key_width_bound c.ks.result)

pub fields_for-requires : goal.fields_for-requires
fields_for-requires c =
    omega (arith, c.tag_width-bits.ensures, tag_width_bound c.ms.result)

pub returns : goal.returns
unfolding S.chain_with
returns c =
    rw (c.mf.ensures, c.hf.ensures, c.alpha.ensures, c.fields_for.ensures, c.root_seconds.ensures, c.nmack-blocks.ensures, c.tag_width-bits.ensures, c.ms.ensures, c.key_width-width.ensures, c.ks.ensures)
