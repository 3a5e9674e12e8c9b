-- `due_tag_keys::outcomes` meets its contract: at each turn the tags above slot m are judged, and the key of slot `at` is at hand.
use mathlib.Core.Path.{◌≡◌}
use Prim.Native.Nat.{◌≤◌}
use lib.ListN.{take}
use Rattle.rules.specs.Chain.{Held, key_of_slot}
use Rattle.due_tag_keys.specs.Outcomes.{JudgedAbove}
use Rattle.due_tag_keys.proofs.outcomes.Given as goal

abbrev pub invariant-loop-m : goal.invariant-loop-m
invariant-loop-m l = ((l.at ≤ l.slot) × (l.m ≤ l.at))
    × ((h : Held) → h.slot ≡ l.slot → take l.c.width l.initial.key ≡ key_of_slot l.c h l.initial.at → (take l.c.width l.key ≡ key_of_slot l.c h l.at) × JudgedAbove l.c h l.waiting l.n l.m l.judged)

abbrev pub decreases-loop-m : goal.decreases-loop-m
decreases-loop-m l = l.m
