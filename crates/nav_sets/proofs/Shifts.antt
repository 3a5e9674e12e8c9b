-- A field of a number of 64 bits by two shifts, and two fields joined.
-- Assumes nothing.
use mathlib.Core.Path.{◌≡◌, ap, ◌∙◌}
use mathlib.Core.List.{List}
use Prim.Native.Nat.{ℕ, ◌+◌, ◌-◌, ◌*◌, ◌/◌, ◌%◌, ◌^◌, ◌≤◌}
use native.Mathlib.Omega.{arith}
use lib.Bits.{bit_or, or_shifted}
use lib.Pow.{pow_pos, shl_exact, shl-shr, shr-shr, low, field, mod-pow-add}
use Rattle.rules.specs.Bits.{bits}
use Rattle.rules.proofs.Bounds.{bits_lt}
use Rattle.bitfields.proofs.Fields.{bits_cut}
use Rattle.nav_sets.specs.Pieces.{pair_of}

-- the bits that a shift to the left drops
shl_mod : (x k f : ℕ) → x * 2 ^ f % 2 ^ (k + f) ≡ x % 2 ^ k * 2 ^ f
shl_mod x k f =
    let z : x * 2 ^ f % 2 ^ f ≡ 0 = ap (λ (y : ℕ). y % 2 ^ f) (omega arith) ∙ low x f {lo = 0} (pow_pos f) in
    mod-pow-add (x * 2 ^ f) k f ∙ rw (shl-shr x f, z) (omega arith)

-- a field: what stands before it goes to the left, what stands after it to the right
pub field_shifted : (s : List ℕ) (at f n : ℕ) → f + n ≤ 64 → bits s at 64 * 2 ^ f % 2 ^ 64 / 2 ^ (64 - n) ≡ bits s (at + f) n
field_shifted s at f n h =
    let t : ℕ = 64 - (f + n) in
    let whole : 64 ≡ f + n + t = omega arith in
    let left : 64 ≡ n + t + f = omega arith in
    let right : 64 - n ≡ f + t = omega arith in
    let x : ℕ = bits s at 64 in
    ap (λ (k : ℕ). x * 2 ^ f % 2 ^ k / 2 ^ (64 - n)) left
    ∙ rw (shl_mod x (n + t) f, right, ← shr-shr (x % 2 ^ (n + t) * 2 ^ f) f t, shl-shr (x % 2 ^ (n + t)) f, field x n t)
    (ap (λ (k : ℕ). bits s at k / 2 ^ t % 2 ^ n) whole ∙ bits_cut s at f n t)

-- two fields, one after the other
pub pair_is : (s : List ℕ) (a from n : ℕ) (u : List ℕ) (b to : ℕ) → from + n ≤ 64 → to ≤ n → n ≤ 64
    → bit_or (bits s a 64 * 2 ^ from % 2 ^ 64 / 2 ^ (64 - n) * 2 ^ (64 - n) % 2 ^ 64) (bits u b 64 * 2 ^ to % 2 ^ 64 / 2 ^ n) ≡ pair_of s (a + from) n u (b + to)
unfolding pair_of
pair_is s a from n u b to h k l =
    let e : n ≡ 64 - (64 - n) = omega arith in
    let d : bits u b 64 * 2 ^ to % 2 ^ 64 / 2 ^ n ≡ bits u (b + to) (64 - n) =
    ap (λ (m : ℕ). bits u b 64 * 2 ^ to % 2 ^ 64 / 2 ^ m) e ∙ field_shifted u b to (64 - n) (omega arith) in
    let c : bits s (a + from) n * 2 ^ (64 - n) % 2 ^ 64 ≡ bits s (a + from) n * 2 ^ (64 - n) =
    shl_exact n (64 - n) 64 (bits_lt s (a + from) n) (omega arith) in
    rw (field_shifted s a from n h, d, c)
    (or_shifted (bits s (a + from) n) (64 - n) (bits u (b + to) (64 - n)) (bits_lt u (b + to) (64 - n)))
