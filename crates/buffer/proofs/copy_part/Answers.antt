-- `buffer::copy_part` meets its contract: what is lent of `src` is the part.
use Rattle.laws.proofs.Splice.{range_part}
use Rattle.buffer.proofs.copy_part.Goals as goal

pub returns : goal.returns
returns c = rw (c.copy_at.ensures, range_part)
