-- `gather::mack_of` meets its contract: after i turns the first 4 i bytes are those of i fields.
use mathlib.Core.Path.{◌≡◌, refl, sym, ◌∙◌}
use native.Mathlib.Omega.{arith}
use lib.Seq.{take_all}
use Rattle.rules.specs.Gather as Rule
use Rattle.gather.proofs.Sections.{mack_more}
use Rattle.gather.proofs.mack_of.Goals as goal

pub loop-i-init : goal.loop-i-init
unfolding Rule.mack_of
loop-i-init c = (refl, refl)

pub loop-i-preserved : goal.loop-i-preserved
loop-i-preserved c =
    let l = c.loop-i in
    (c.copy_part.auto.dst ∙ l.invariant.0, rw c.copy_part.ensures (mack_more _ l.mack l.i (omega arith) (omega arith) l.invariant.1))

pub returns : goal.returns
returns c =
    let l = c.loop-i in
    let e : l.i ≡ 15 = omega arith in
    sym (take_all 60 l.mack (omega arith)) ∙ rw e at l.invariant.1
