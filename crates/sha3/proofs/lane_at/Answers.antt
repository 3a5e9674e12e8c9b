-- `sha3::lane_at` meets its contract: the sum is the definition's own.
use Rattle.sha3.specs.Sha3 as S
use Rattle.sha3.proofs.lane_at.Goals as goal

pub returns : goal.returns
unfolding S.lane_at
returns c = c.from_le_bytes.ensures
