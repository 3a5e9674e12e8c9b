-- `public_keys::filled_key` meets its contract: the key is copied into zeros.
use mathlib.Core.Path.{◌∙◌}
use Rattle.rules.specs.Bits.{filled}
use Rattle.laws.proofs.Splice.{splice-start}
use Rattle.public_keys.proofs.filled_key.Goals as goal

pub returns : goal.returns
unfolding filled
returns c = c.copy_at.ensures ∙ splice-start 67 0 c.args.key.now
