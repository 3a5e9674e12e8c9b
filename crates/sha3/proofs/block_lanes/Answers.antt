-- `sha3::block_lanes` meets its contract: after 64 bytes only the block's last lane is not 0.
use mathlib.Core.Path.{◌≡◌}
use borrow.Author.Rules.{rules}
use lib.ListN.{length}
use Rattle.sha3.proofs.Laid.{block-lanes_are}
use Rattle.sha3.proofs.block_lanes.Goals as goal

pub returns : goal.returns
returns c =
    let e : length c.args.b.now ≡ 64 = search rules in
    (block-lanes_are c.args.b.now c.args.rate e c.requires.0 c.requires.1.0 c.requires.1.1 c.end_at-short.ensures c.end_at-long.ensures c.lane_at.ensures c.lane_at-2.ensures c.lane_at-3.ensures c.lane_at-4.ensures c.lane_at-5.ensures c.lane_at-6.ensures c.lane_at-7.ensures c.lane_at-8.ensures, e)
