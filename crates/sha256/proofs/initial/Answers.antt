-- `sha256::initial` meets its contract: the definition is the code's own.
use Rattle.std.proofs.Common.{refl}
use Rattle.sha256.specs.Sha256 as S
use Rattle.sha256.proofs.initial.Goals as goal

pub returns : goal.returns
unfolding S.H0
returns c = refl
