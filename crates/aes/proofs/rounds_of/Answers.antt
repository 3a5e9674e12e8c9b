-- `aes::rounds_of` meets its contract.
use Rattle.aes.specs.Aes as S
use Rattle.aes.proofs.rounds_of.Goals as goal

pub returns : goal.returns
unfolding S.rounds_of
returns c = rw c.words_of.ensures.0
