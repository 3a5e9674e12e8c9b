-- `sha3::digest` meets its contract: four lanes are written one after the other.
use mathlib.Core.Path.{◌≡◌}
use borrow.Author.Rules.{rules}
use lib.ListN.{length}
use Rattle.sha3.proofs.Written.{digest_is}
use Rattle.sha3.proofs.digest.Goals as goal
use Rattle.sha3.proofs.digest.Goals.{Start}

length-s : (c : Start) → length c.args.s ≡ 25
length-s c = search rules

pub returns : goal.returns
returns c =
    digest_is _ (length-s (goal.at.returns c).Start) c.put_lane.ensures c.put_lane-2.ensures c.put_lane-3.ensures c.put_lane-4.ensures
