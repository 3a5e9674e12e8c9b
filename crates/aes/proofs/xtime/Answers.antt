-- `aes::xtime` meets its contract: the definition is the code's own.
use mathlib.Core.Path.{refl}
use Rattle.aes.specs.Aes as S
use Rattle.aes.proofs.xtime.Goals as goal

pub returns : goal.returns
unfolding S.xtime
returns c = refl
