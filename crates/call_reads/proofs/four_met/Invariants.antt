-- `call_reads::four_met` meets its contract: after i turns that did not end the scan, at most three of the first i satellites count.
use mathlib.Core.Path.{◌≡◌}
use Prim.Native.Nat.{◌-◌, ◌≤◌}
use Rattle.rules.specs.Four.{recent_count}
use Rattle.call_reads.proofs.four_met.Given as goal

abbrev pub invariant-loop-i : goal.invariant-loop-i
invariant-loop-i l = (l.i ≤ 36) × ((l.met ≤ 3) × (l.met ≡ recent_count l.clock l.limit l.arrivals l.i))

abbrev pub decreases-loop-i : goal.decreases-loop-i
decreases-loop-i l = 36 - l.i
