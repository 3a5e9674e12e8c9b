-- `sha3::columns` meets its contract: the definition is the code's own.
use mathlib.Core.Path.{refl}
use Rattle.sha3.specs.Sha3 as S
use Rattle.sha3.proofs.columns.Goals as goal

pub returns : goal.returns
unfolding S.columns S.up_to S.at
returns c = refl
