-- `sha256::finish` meets its contract: after i turns the hash value is that of the first i blocks.
use Rattle.std.proofs.Common.{arith}
use Rattle.sha256.proofs.Message.{no_block, one_more, finished_is}
use Rattle.sha256.proofs.finish.Goals as goal

pub loop-i-init : goal.loop-i-init
loop-i-init c = no_block _ _

pub loop-i-preserved : goal.loop-i-preserved
loop-i-preserved c =
    let l = c.loop-i in
    one_more _ _ l.g _ _ l.i l.invariant c.block_at-d.ensures c.compress-v.ensures

pub returns : goal.returns
returns c =
    let l = c.loop-i in
    finished_is _ c.args.a.now c.args.b.now l.g _ c.args.n l.i (omega arith) c.loop-i-test.false l.invariant c.bytes.ensures
