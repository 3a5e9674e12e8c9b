-- `assurance::claim` carries demand 3 in its contract. Assumes nothing.
use Rattle.assurance.proofs.Run.{exported_claim}
use Rattle.assurance.proofs.claim.Goals as goal

pub returns : goal.returns
returns c = exported_claim
