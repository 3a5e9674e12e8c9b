-- After k turns the first k valves have decided; the byte behind the valves is not lent to the loop.
use Rattle.std.proofs.Common.{◌≡◌, ◌++◌, drop}
use Rattle.valve_rules.specs.Gate.{decided_to}
use Rattle.valves.proofs.decide_valves.Given as goal

abbrev pub invariant-loop-k : goal.invariant-loop-k
invariant-loop-k l = l.byte-items ++ drop 48 l.fn.gate ≡ decided_to l.met20 l.met10 l.fn.gate l.k
