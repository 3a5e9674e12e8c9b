-- `rules::tag_truncation` carries what a tag of any size is compared with in its contract. Assumes nothing.
use Rattle.rules.proofs.TagBits.{tag_bits}
use Rattle.rules.proofs.tag_truncation.Goals as goal

pub returns : goal.returns
returns c = record { tag_bits = tag_bits }
