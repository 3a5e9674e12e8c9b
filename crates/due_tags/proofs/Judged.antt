-- A sweep by the right outcomes is the rule's: the due tags are judged and the others stay.
-- Assumes nothing.
use mathlib.Core.Path.{◌≡◌, refl, ap, ◌∙◌}
use mathlib.Core.Bool.{Bool, true, false, cond}
use mathlib.Core.List.{List}
use Prim.Native.Nat.{ℕ, zero, suc}
use native.Mathlib.Omega.{arith}
use Rattle.rules.specs.Chain.{Held}
use Rattle.rules.specs.Tags.{Work, told, kept, entry_at, entry_tag, entry_set, is_due, tag_matches, due_judged, dues_judged}
use Rattle.rules.specs.declared.Chain.{Chain}
use Rattle.rules.specs.declared.Outcome.{Outcome}
use Rattle.due_tag_keys.specs.Outcomes.{due_outcome, match_outcome, Outcomes}
use Rattle.due_tags.specs.Swept.{swept_one, swept}

by_tests : (ms : ℕ) (b d : Bool) (e : List ℕ) (w : Work) → swept_one ms (cond b (cond d 1 2) 0) e w ≡ cond b (told ms (cond d 1 2) (entry_tag e) (entry_set e) w) (kept e w)
unfolding swept_one
by_tests ms true true e w = refl
by_tests ms true false e w = refl
by_tests ms false d e w = refl

one_judged : (c : Chain) (h : Held) (e : List ℕ) (w : Work) → swept_one c.ms (due_outcome c h e) e w ≡ due_judged c h e w
unfolding due_outcome match_outcome due_judged
one_judged c h e w = by_tests c.ms (is_due c h (entry_tag e)) (tag_matches c h false (entry_tag e) (entry_set e)) e w

pub all_judged : (c : Chain) (h : Held) (waiting : List ℕ) (outcomes : List Outcome) (w : Work) (n : ℕ) → Outcomes c h waiting n outcomes → swept c.ms outcomes waiting n w ≡ dues_judged c h waiting n w
unfolding swept dues_judged
all_judged c h waiting outcomes w zero o = refl
all_judged c h waiting outcomes w (suc n) o =
    ap (λ (x : ℕ). swept_one c.ms x (entry_at waiting n) (swept c.ms outcomes waiting n w)) (o n (omega arith))
    ∙ one_judged c h (entry_at waiting n) (swept c.ms outcomes waiting n w)
    ∙ ap (due_judged c h (entry_at waiting n)) (all_judged c h waiting outcomes w n (λ k q. o k (omega arith)))
