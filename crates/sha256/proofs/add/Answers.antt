-- `sha256::add` meets its contract: the definition is the code's own.
use Rattle.std.proofs.Common.{refl}
use Rattle.sha256.specs.Sha256 as S
use Rattle.sha256.proofs.add.Goals as goal

pub returns : goal.returns
unfolding S.add
returns c = refl
