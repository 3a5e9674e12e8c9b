-- `sha3::either` meets its contract: De Morgan's law.
use borrow.Author.Rules.{rules}
use Rattle.sha3.proofs.Inverted.{either_is}
use Rattle.sha3.proofs.either.Goals as goal

pub returns : goal.returns
returns c = either_is c.args.x c.args.y (search rules) (search rules)
