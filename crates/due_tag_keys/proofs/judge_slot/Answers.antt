-- `due_tag_keys::judge_slot` meets its contract: after k turns the first k outcomes are those after slot m, the others as before.
use mathlib.Core.Path.{refl, ◌∙◌}
use mathlib.Core.Bool.{cond}
use Prim.Native.Nat.{ℕ, ◌<◌}
use native.Mathlib.Omega.{arith}
use borrow.Author.Rules.{rules}
use lib.Dec.{eqb}
use lib.ListN.{length, get_or, length-set}
use Rattle.std.proofs.lemmas.List.{get_or_default}
use Rattle.rules.specs.Tags.{entry_at}
use Rattle.rules.specs.declared.Outcome.TheVariants.{Agrees, Waits}
use Rattle.due_tag_keys.specs.Outcomes.{entry_slot, due_number, match_outcome}
use Rattle.due_tag_keys.proofs.Falling.{filled_one, behind_kept}
use Rattle.due_tag_keys.proofs.judge_slot.Goals as goal

pub loop-k-init : goal.loop-k-init
loop-k-init c = (search rules, (λ j h. refl, λ h e j q. absurd (omega arith)))

pub loop-k-preserved : goal.loop-k-preserved
loop-k-preserved c =
    let l = c.loop-k in
    let g = c.args in
    let w = g.waiting.now in
    let v = g.outcomes.now in
    let i = l.invariant in
    let n : l.k < length l.outcomes = omega arith in (
      simp length-set i.0,
      (
        behind_kept l.outcomes v l.k c.outcome_at.result i.1.0,
        λ h e. filled_one (λ (j : ℕ). cond (eqb (entry_slot g.c (entry_at w j)) g.m) (match_outcome g.c h (entry_at w j)) (due_number (get_or v j Waits)))
            l.outcomes l.k c.outcome_at.result n (i.1.1 h e)
            (c.outcome_at.ensures h e ∙ rw (get_or_default l.outcomes l.k Agrees Waits n, i.1.0 l.k (omega arith))),
      ),
    )

pub returns : goal.returns
returns c =
    let l = c.loop-k in
    λ h e k q. l.invariant.1.1 h e k (omega arith)
