-- `mack_half::held_key` meets its contract: the key is copied into zeros.
use mathlib.Core.Path.{◌∙◌}
use lib.ListN.{take}
use Rattle.laws.specs.Lists.{part}
use Rattle.laws.proofs.Splice.{splice-start}
use Rattle.rules.specs.Bits.{filled}
use Rattle.mack_half.proofs.held_key.Goals as goal

pub returns : goal.returns
unfolding filled part
returns c =
    let g = c.args in
    c.copy_part.ensures ∙ splice-start 32 0 (take g.width g.heldkey.now)
