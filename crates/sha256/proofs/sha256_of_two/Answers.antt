-- `sha256::sha256_of_two` meets its contract: nothing is hashed before.
use Rattle.std.proofs.Common.{◌∙◌}
use Rattle.sha256.proofs.Continued.{from_start}
use Rattle.sha256.proofs.sha256_of_two.Goals as goal

pub returns : goal.returns
returns c = c.finish.ensures ∙ rw c.initial.ensures (from_start _)
