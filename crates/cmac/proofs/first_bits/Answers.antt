-- `cmac::first_bits` meets its contract: the shifts drop the bits after the first n.
use borrow.Author.Rules.{rules}
use Rattle.cmac.proofs.Truncation.{first_shifted}
use Rattle.cmac.proofs.first_bits.Goals as goal

pub returns : goal.returns
returns c = first_shifted _ _ _ _ c.min-s.ensures c.from.ensures (search rules)
