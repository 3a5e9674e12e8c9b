-- `sha256::rotr` meets its contract: a count below 32 is its own remainder.
use Rattle.std.proofs.Common.{◌≡◌, ◌-◌, ◌%◌, ◌∙◌, arith}
use Rattle.sha256.specs.Sha256 as S
use Rattle.sha256.proofs.rotr.Goals as goal

pub returns : goal.returns
unfolding S.rotr
returns c =
    let n = c.args.n in
    let e : n % 32 ≡ n = omega arith in
    let f : (32 - n) % 32 ≡ 32 - n = omega arith in
    c.rotate_right.ensures ∙ rw (e, f)
