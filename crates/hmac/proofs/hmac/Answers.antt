-- `hmac::hmac` meets its contract: the key is kept for one message.
use mathlib.Core.Path.{◌∙◌}
use Rattle.hmac.proofs.Kept.{kept}
use Rattle.hmac.proofs.hmac.Goals as goal

pub returns : goal.returns
returns c = c.hmac_with.ensures ∙ rw c.hmac_key.ensures (kept _ _)
