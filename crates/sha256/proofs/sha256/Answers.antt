-- `sha256::sha256` meets its contract: the second part is empty.
use Rattle.std.proofs.Common.{ap, ◌∙◌, append-nil}
use Rattle.sha256.specs.Sha256 as S
use Rattle.sha256.proofs.sha256.Goals as goal

pub returns : goal.returns
returns c = c.sha256_of_two.ensures ∙ ap S.sha256 (append-nil _)
