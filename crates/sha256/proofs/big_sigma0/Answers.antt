-- `sha256::big_sigma0` meets its contract: each rotation is what `rotr` ensures, and the three stand one inside the other.
use Rattle.std.proofs.Common.{◌^◌, ◌<◌, arith, rules}
use Rattle.sha256.specs.Sha256 as S
use Rattle.sha256.proofs.Rotations.{three_nested}
use Rattle.sha256.proofs.big_sigma0.Goals as goal

pub returns : goal.returns
unfolding S.Σ0
returns c =
    let x = c.args.x in
    let h : x < 2 ^ 32 = search rules in
    three_nested 2 11 9 x (omega arith) h c.rotr.ensures c.rotr-2.ensures c.rotr-3.ensures
