-- `due_tag_keys::next_below` meets its contract: after k turns none of the first k slots below the bound is above the best, which is 0 or one of them.
use mathlib.Core.Logic.{◌⊎◌}
use mathlib.Core.Path.{◌≡◌}
use Prim.Native.Nat.{ℕ, ◌≤◌, ◌<◌}
use Rattle.rules.specs.Tags.{entry_at}
use Rattle.due_tag_keys.specs.Outcomes.{entry_slot, TagOfSlot}
use Rattle.due_tag_keys.proofs.next_below.Given as goal

abbrev pub invariant-loop-k : goal.invariant-loop-k
invariant-loop-k l = (l.best < l.below)
    × (((j : ℕ) → j < l.k → entry_slot l.c (entry_at l.waiting j) < l.below → entry_slot l.c (entry_at l.waiting j) ≤ l.best) × ((l.best ≡ 0) ⊎ TagOfSlot l.c l.waiting l.k l.best))
