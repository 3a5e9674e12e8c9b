-- `sha3::masked` meets its contract: the other lanes have 0 added.
use Rattle.std.proofs.Common.{◌≡◌, length, rules}
use Rattle.sha3.proofs.Inverted.{masked_is}
use Rattle.sha3.proofs.masked.Goals as goal

pub returns : goal.returns
returns c =
    let n : length c.args.s ≡ 25 = search rules in
    masked_is _ n
