-- `due_tag_keys::next_below` meets its contract: after k turns none of the first k slots below the bound is above the best, which is 0 or one of them.
use mathlib.Core.Logic.{inl}
use mathlib.Core.Path.{refl}
use Prim.Native.Nat.{ℕ}
use native.Mathlib.Omega.{arith}
use Rattle.rules.specs.Tags.{entry_at}
use Rattle.due_tag_keys.specs.Outcomes.{entry_slot}
use Rattle.due_tag_keys.proofs.Falling.{best_one, tag_one, tag_of_more}
use Rattle.due_tag_keys.proofs.next_below.Goals as goal

pub loop-k-init : goal.loop-k-init
loop-k-init c = (omega arith, ((λ j h. absurd (omega arith)), inl refl))

pub loop-k-preserved : goal.loop-k-preserved
loop-k-preserved c =
    let l = c.loop-k in
    let g = c.args in
    let r = c.higher-best.ensures in
    let slots = best_one (λ (j : ℕ). entry_slot g.c (entry_at g.waiting.now j)) l.k g.below l.best c.higher-best.result l.invariant.1.0 r.1.0 (rw (← c.entry_slot.ensures) r.1.1.0) in
    let tag = tag_one g.c g.waiting.now l.k l.best c.entry_slot.result c.higher-best.result c.entry_slot.ensures l.invariant.1.1 r.1.1.1 in
    (r.0, (slots, tag))

pub returns : goal.returns
returns c =
    let l = c.loop-k in
    (l.invariant.0, ((λ k h. l.invariant.1.0 k (omega arith)), tag_of_more _ _ _ _ _ (omega arith) l.invariant.1.1))
