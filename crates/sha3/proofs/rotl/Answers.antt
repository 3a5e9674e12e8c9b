-- `sha3::rotl` meets its contract: a count below 64 is its own remainder, and the parts have no bit in common.
use Rattle.std.proofs.Common.{◌≡◌, ◌-◌, ◌%◌, ◌^◌, ◌<◌, ◌∙◌, arith, rules}
use Rattle.sha3.specs.Sha3 as S
use Rattle.sha3.proofs.Rotated.{joined}
use Rattle.sha3.proofs.rotl.Goals as goal

pub returns : goal.returns
unfolding S.rotl
returns c =
    let n = c.args.n in
    let x = c.args.x in
    let e : n % 64 ≡ n = omega arith in
    let f : (64 - n) % 64 ≡ 64 - n = omega arith in
    let h : x < 2 ^ 64 = search rules in
    c.rotate_left.ensures ∙ rw (e, f) (joined n x (omega arith) h)
