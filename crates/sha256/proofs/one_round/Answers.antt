-- `sha256::one_round` meets its contract: the word is the schedule's, and takes the constant's place.
use Rattle.std.proofs.Common.{arith}
use Rattle.sha256.proofs.Progress as P
use Rattle.sha256.proofs.one_round.Goals as goal

pub returns : goal.returns
returns g c = λ h b word z. P.one_round h b _ _ _ _ _ (omega arith) (word h _ _ _ z c.word-w.ensures) c.round.ensures z
