-- `sha256::maj` meets its contract: the code is a shorter form of the definition.
use Rattle.sha256.proofs.Digits.{maj_short}
use Rattle.sha256.proofs.maj.Goals as goal

pub returns : goal.returns
returns c = maj_short c.args.x c.args.y c.args.z
