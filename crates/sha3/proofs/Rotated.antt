-- A lane rotated by the library's method: its parts have no bit in common, so that their union is their sum.
-- Assumes nothing.
use mathlib.Core.Path.{◌≡◌, sym, ap, ap₂, ◌∙◌}
use Prim.Native.Nat.{ℕ, ◌+◌, ◌-◌, ◌*◌, ◌/◌, ◌%◌, ◌^◌, ◌<◌}
use native.Mathlib.Nat.{add-zero, mul-mod_left}
use native.Mathlib.Omega.{arith}
use lib.Bits.{bit_or, bit_xor, and_shifted, or_disjoint, xor_disjoint}
use lib.Pow.{mod-pow-add, shl-shr}
use Rattle.std.proofs.Common.{shr_lt}

shifted_up : (n x : ℕ) → n < 64 → (x * 2 ^ n) % 2 ^ 64 ≡ x % 2 ^ (64 - n) * 2 ^ n
shifted_up n x l =
    let e : 64 ≡ (64 - n) + n = omega arith in
    ap (λ (k : ℕ). (x * 2 ^ n) % 2 ^ k) e
    ∙ mod-pow-add (x * 2 ^ n) (64 - n) n
    ∙ ap₂ (λ (a b : ℕ). a % 2 ^ (64 - n) * 2 ^ n + b) (shl-shr x n) (mul-mod_left x (2 ^ n))
    ∙ add-zero (x % 2 ^ (64 - n) * 2 ^ n)

pub joined : (n x : ℕ) → n < 64 → x < 2 ^ 64 → bit_or ((x * 2 ^ n) % 2 ^ 64) (x / 2 ^ (64 - n)) ≡ bit_xor ((x * 2 ^ n) % 2 ^ 64) (x / 2 ^ (64 - n))
joined n x l h =
    let e : 64 ≡ n + (64 - n) = omega arith in
    let g : x < 2 ^ (n + (64 - n)) = rw (← e) h in
    let z = and_shifted (x % 2 ^ (64 - n)) n (x / 2 ^ (64 - n)) (shr_lt n (64 - n) g) in
    rw (shifted_up n x l) (or_disjoint _ _ z ∙ sym (xor_disjoint _ _ z))
