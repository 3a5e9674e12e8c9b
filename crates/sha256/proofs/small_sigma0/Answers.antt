-- `sha256::small_sigma0` meets its contract: each rotation is what `rotr` ensures, and one stands inside the other.
use Rattle.std.proofs.Common.{ℕ, ◌/◌, ◌^◌, ◌<◌, ap, arith, rules}
use lib.Bits.{bit_xor}
use Rattle.sha256.specs.Sha256 as S
use Rattle.sha256.proofs.Rotations.{two_nested}
use Rattle.sha256.proofs.small_sigma0.Goals as goal

pub returns : goal.returns
unfolding S.σ0 S.shr
returns c =
    let x = c.args.x in
    let h : x < 2 ^ 32 = search rules in
    ap (λ (t : ℕ). bit_xor t (x / 2 ^ 3)) (two_nested 7 11 x (omega arith) h c.rotr.ensures c.rotr-2.ensures)
