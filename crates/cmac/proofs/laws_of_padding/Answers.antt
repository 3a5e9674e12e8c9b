-- `cmac::laws_of_padding` carries the laws of the padding in its contract. Assumes nothing.
use Rattle.cmac.proofs.Padding.{whole_blocks, not-padded, is_padded, block_before, block_n}
use Rattle.cmac.proofs.laws_of_padding.Goals as goal

pub returns : goal.returns
returns c = record { whole_blocks = whole_blocks; not-padded = not-padded; is_padded = is_padded; block_before = block_before; block_n = block_n }
