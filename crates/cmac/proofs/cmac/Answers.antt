-- `cmac::cmac` meets its contract: the key is kept for one message.
use mathlib.Core.Path.{◌∙◌}
use Rattle.cmac.proofs.Kept.{kept}
use Rattle.cmac.proofs.cmac.Goals as goal

pub returns : goal.returns
returns c = c.cmac_with.ensures ∙ rw c.cmac_key.ensures (kept _ _)
