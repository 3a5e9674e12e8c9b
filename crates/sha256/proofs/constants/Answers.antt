-- `sha256::constants` meets its contract: the definition is the code's own.
use Rattle.std.proofs.Common.{refl}
use Rattle.sha256.specs.Sha256 as S
use Rattle.sha256.proofs.constants.Goals as goal

pub returns : goal.returns
unfolding S.K
returns c = refl
