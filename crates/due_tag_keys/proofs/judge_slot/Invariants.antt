-- `due_tag_keys::judge_slot` meets its contract: after k turns the first k outcomes are those after slot m, the others as before.
use mathlib.Core.Path.{◌≡◌}
use Prim.Native.Nat.{ℕ, ◌≤◌}
use lib.ListN.{length, get_or}
use Rattle.mac.specs.Kept.{kept_of}
use Rattle.rules.specs.Chain.{Held, key_of_slot}
use Rattle.rules.specs.declared.Outcome.TheVariants.{Waits}
use Rattle.due_tag_keys.specs.Outcomes.{JudgedAt}
use Rattle.due_tag_keys.proofs.judge_slot.Given as goal

abbrev pub invariant-loop-k : goal.invariant-loop-k
invariant-loop-k l = (length l.outcomes ≡ 256)
    × (((j : ℕ) → l.k ≤ j → get_or l.outcomes j Waits ≡ get_or l.initial.outcomes j Waits)
    × ((h : Held) → l.key ≡ kept_of l.c.mf (key_of_slot l.c h l.m) → JudgedAt l.c h l.waiting l.k l.m l.initial.outcomes l.outcomes))
