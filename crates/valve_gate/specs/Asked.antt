-- A decision that asks the core itself (02, P14): its answers for an age of 20 and for one of 10 decide, and nothing else of it. Where it refuses to
-- answer, since a region has a wrong length, nothing is changed and no valve is free.
use Rattle.std.specs.Prelude.{cond, ◌&&◌, List, ℕ, eqb}
use Rattle.rules.specs.Calls.{FourRead}
use Rattle.valve_rules.specs.Gate.{Decided, decision, decide_call}

unfoldable pub decide_asked : List ℕ → FourRead → FourRead → Decided
decide_asked g four20 four10 = cond (eqb four20.code 0 && eqb four10.code 0) (decide_call g four20.yes four10.yes) (decision 1 g 0)
