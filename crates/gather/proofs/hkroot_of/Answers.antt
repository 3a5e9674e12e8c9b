-- `gather::hkroot_of` meets its contract: after i turns the first i bytes are those of i fields.
use mathlib.Core.Path.{◌≡◌, refl, sym, ◌∙◌}
use native.Mathlib.Omega.{arith}
use lib.ListN.{length-set}
use lib.Seq.{take_all}
use Rattle.rules.specs.Gather as Rule
use Rattle.gather.proofs.Sections.{hkroot_more}
use Rattle.gather.proofs.hkroot_of.Goals as goal

pub loop-i-init : goal.loop-i-init
unfolding Rule.hkroot_of
loop-i-init c = (refl, refl)

pub loop-i-preserved : goal.loop-i-preserved
loop-i-preserved c =
    let l = c.loop-i in
    (simp length-set l.invariant.0, hkroot_more _ l.hk l.i (omega arith) l.invariant.1)

pub returns : goal.returns
returns c =
    let l = c.loop-i in
    let e : l.i ≡ 15 = omega arith in
    sym (take_all 15 l.hk (omega arith)) ∙ rw e at l.invariant.1
