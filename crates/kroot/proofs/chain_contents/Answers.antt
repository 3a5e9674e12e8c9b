-- `kroot::chain_contents` meets its contract: the part from place 1 on.
use mathlib.Core.Path.{refl}
use Rattle.rules.specs.State.{contents_length}
use native.Mathlib.Omega.{arith}
use Rattle.laws.specs.Lists.{part}
use Rattle.laws.proofs.Splice.{length_part}
use Rattle.rules.specs.Kroot as S
use Rattle.kroot.proofs.chain_contents.Goals as goal

pub returns : goal.returns
unfolding S.chain_contents part
returns c = (refl, length_part c.args.chain.now 1 contents_length (omega arith))
