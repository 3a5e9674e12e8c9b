-- The code's valve as one of the rules.
use Rattle.valve_rules.specs.Valve.{free, closed2, closed1, closed}
use Rattle.valve_rules.specs.Valve as Rules
use Rattle.valves.specs.declared.Valve.{Valve}
use Rattle.valves.specs.declared.Valve.TheVariants.{Free, ClosedTwo, ClosedOne, Closed}

abbrev pub rule_of : Valve → Rules.Valve
rule_of Free = free
rule_of ClosedTwo = closed2
rule_of ClosedOne = closed1
rule_of Closed = closed
