-- `sha3::sha3_224` meets its contract: the rate is what the digest's length gives.
use Rattle.sha3.specs.Sha3 as S
use Rattle.sha3.proofs.sha3_224.Goals as goal

pub returns : goal.returns
unfolding S.sha3_224
returns c = c.sha3_of.ensures
