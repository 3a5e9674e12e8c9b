-- `cmac::cmac_with` meets its contract: the blocks of the message are chained.
use mathlib.Core.Path.{◌∙◌}
use Rattle.cmac.specs.Cmac as S
use Rattle.cmac.proofs.cmac_with.Goals as goal

pub returns : goal.returns
unfolding S.cmac_with
returns c = c.chained.ensures ∙ rw c.rounds_in.ensures.0
