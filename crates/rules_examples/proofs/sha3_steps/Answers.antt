-- `rules_examples::sha3_steps` meets its contract: the values are computed in Sha3Steps. Assumes nothing.
use Rattle.rules_examples.proofs.Sha3Steps.{sha3_steps}
use Rattle.rules_examples.proofs.sha3_steps.Goals as goal

pub returns : goal.returns
returns c = sha3_steps
