-- `valve_safety::gate_claim` carries the claim in its contract. Assumes nothing.
use Rattle.valve_safety.proofs.Exported.{exported_gate}
use Rattle.valve_safety.proofs.gate_claim.Goals as goal

pub returns : goal.returns
returns c = exported_gate
