-- `sha3::constants` meets its contract: antt computes the rule of the 24 constants.
use mathlib.Core.Path.{refl}
use Rattle.sha3.specs.Sha3 as S
use Rattle.sha3.proofs.constants.Goals as goal

pub returns : goal.returns
unfolding S.up_to S.RC S.constant_bits S.rc S.register
returns c = refl
