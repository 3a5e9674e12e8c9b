-- Valves k + 1 to 48 have their digits.
use Rattle.std.proofs.Common.{◌≡◌, ◌-◌}
use Rattle.valve_rules.specs.Gate.{last_digits}
use Rattle.valves.proofs.free_valves.Given as goal

abbrev pub invariant-loop-k : goal.invariant-loop-k
invariant-loop-k l = l.free ≡ last_digits l.gate (48 - l.k)
