-- `hmac::hmac_key` meets its contract, by what its calls ensure.
use Rattle.hmac.specs.Hmac as Spec
use Rattle.hmac.proofs.hmac_key.Goals as goal

pub returns : goal.returns
unfolding Spec.key_of Spec.inner_pad Spec.outer_pad
returns c = cc
