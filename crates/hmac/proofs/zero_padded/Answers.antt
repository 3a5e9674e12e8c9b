-- `hmac::zero_padded` meets its contract: b at the start of zeros.
use mathlib.Core.Path.{◌∙◌}
use Rattle.laws.proofs.Splice.{splice-start}
use Rattle.hmac.specs.Hmac as Spec
use Rattle.hmac.proofs.zero_padded.Goals as goal

pub returns : goal.returns
unfolding Spec.zero_padded
returns c = c.copy_at.ensures ∙ splice-start 64 0 _
