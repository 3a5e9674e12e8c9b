-- `kroot::root_week` meets its contract: the low four bits of a byte and the next byte.
use mathlib.Core.Path.{sym}
use native.Mathlib.Omega.{arith}
use Rattle.kroot.proofs.Parameters.{low_and-next}
use Rattle.rules.specs.Kroot as S
use Rattle.kroot.proofs.root_week.Goals as goal

pub returns : goal.returns
unfolding S.root_week_of
returns c =
    let g = c.args in
    rw (c.from.ensures, c.from-2.ensures) (sym (low_and-next g.c.now 3 (omega (arith, c.type_inv.c 4))))
