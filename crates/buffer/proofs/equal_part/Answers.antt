-- `buffer::equal_part` meets its contract: what is lent of each slice is its part.
use Rattle.laws.proofs.Splice.{range_part}
use Rattle.buffer.proofs.equal_part.Goals as goal

pub returns : goal.returns
returns c = rw (c.equal.ensures, range_part, range_part)
