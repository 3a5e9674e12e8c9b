-- `sha3::last_block` meets its contract: the padding is one byte or more.
use Rattle.sha3.proofs.Padding.{last_is}
use Rattle.sha3.proofs.last_block.Goals as goal

pub returns : goal.returns
returns c =
    last_is _ c.args.at c.args.rate c.requires.1.0 c.requires.1.1 c.requires.0 c.copy_part.ensures
