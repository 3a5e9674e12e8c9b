-- `aes::sub_word` meets its contract.
use mathlib.Core.Path.{◌∙◌}
use Rattle.aes.proofs.Keys.{sub_four}
use Rattle.aes.proofs.sub_word.Goals as goal

pub returns : goal.returns
returns c = c.sub_column.ensures ∙ sub_four c.args.x
