-- `waiting_tags::keep_staying` meets its contract: after k turns those of the first k entries that stay are at the front.
use mathlib.Core.Path.{◌≡◌}
use Prim.Native.Nat.{◌*◌, ◌≤◌}
use lib.ListN.{length}
use Rattle.laws.specs.Lists.{splice}
use Rattle.rules.specs.Verdict.{staying}
use Rattle.rules.specs.State.{entry_length}
use Rattle.waiting_tags.proofs.keep_staying.Given as goal

abbrev pub invariant-loop-k : goal.invariant-loop-k
invariant-loop-k l = (l.kept ≤ l.k) × ((length (staying l.root l.initial.waiting l.k) ≡ l.kept * entry_length) × (l.waiting ≡ splice l.initial.waiting 0 (staying l.root l.initial.waiting l.k)))
