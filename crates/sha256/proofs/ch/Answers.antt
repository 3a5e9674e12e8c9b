-- `sha256::ch` meets its contract: the code is a shorter form of the definition.
use Rattle.std.proofs.Common.{◌^◌, ◌<◌, rules}
use Rattle.sha256.proofs.Digits.{ch_short}
use Rattle.sha256.proofs.ch.Goals as goal

pub returns : goal.returns
returns c =
    let x = c.args.x in
    let z = c.args.z in
    let hx : x < 2 ^ 32 = search rules in
    let hz : z < 2 ^ 32 = search rules in
    ch_short x c.args.y z hx hz
