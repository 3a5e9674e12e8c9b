-- `sha3::whole_block` meets its contract: the block is followed by zeros.
use borrow.Author.Rules.{rules}
use Rattle.sha3.proofs.Padding.{whole_is}
use Rattle.sha3.proofs.whole_block.Goals as goal

pub returns : goal.returns
returns c =
    whole_is _ c.args.at c.args.rate (search rules) c.copy_part.ensures
