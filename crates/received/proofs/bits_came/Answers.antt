-- `received::bits_came` meets its contract: the marks of the bits' fields are all ones, or one of them is not.
use mathlib.Core.Path.{refl, sym}
use native.Mathlib.Omega.{arith}
use Rattle.received.proofs.Items.{no_bits, whole_positive, by_run}
use Rattle.received.proofs.bits_came.Goals as goal

pub returns-then-n-eq0 : goal.returns-then-n-eq0
returns-then-n-eq0 c = sym (no_bits _ _ _ c.if-n-eq0.true)

pub nonzero_rem-result : goal.nonzero_rem-result
nonzero_rem-result c = whole_positive _ (omega (arith, c.requires))

pub overflow_sub-result-2 : goal.overflow_sub-result-2
overflow_sub-result-2 c = whole_positive _ (omega (arith, c.requires))

pub returns : goal.returns
returns c =
    let g = c.args in
    by_run g.marks g.at g.n _ (omega (arith, c.if-n-eq0.false)) refl (omega (arith, c.requires))
