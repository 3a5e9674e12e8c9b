-- `valve_rules::claim` carries the claim in its contract. Assumes nothing.
use Rattle.valve_rules.proofs.Run.{gate_claim}
use Rattle.valve_rules.proofs.claim.Goals as goal

pub returns : goal.returns
returns c = gate_claim
