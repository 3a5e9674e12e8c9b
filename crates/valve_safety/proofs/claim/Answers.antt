-- `valve_safety::claim` carries the claim in its contract. Assumes nothing.
use Rattle.valve_safety.proofs.Safety.{safe}
use Rattle.valve_safety.proofs.claim.Goals as goal

pub returns : goal.returns
returns c = safe
