-- `sha3::one_block` meets its contract: the block's lanes, permuted, and their first bytes.
use native.Mathlib.Omega.{arith}
use Rattle.sha3.proofs.Short.{one_block_is}
use Rattle.sha3.proofs.one_block.Goals as goal

pub returns : goal.returns
returns c =
    one_block_is c.args.b.now c.args.rate c.block_lanes.ensures.1 (omega (arith, c.requires.0)) (omega (arith, c.requires.1.0)) c.requires.1.1 c.block_lanes.ensures.0 c.permute.ensures c.digest.ensures
