-- The bytes of a number by the library's methods: eight bytes of a string, a number's eight, and its last five.
-- Assumes nothing.
use mathlib.Core.Path.{◌≡◌, ◌∙◌}
use mathlib.Core.List.{List, [], ◌∷◌}
use Prim.Native.Nat.{ℕ, ◌+◌, ◌*◌, ◌/◌, ◌%◌, ◌^◌, ◌<◌}
use native.Mathlib.Omega.{arith}
use lib.ListN.{get_or, take, drop}
use Rattle.std.specs.Int.{w64, to_be_bytes}
use Rattle.laws.specs.Bytes.{be4, be8}
use Rattle.rules.specs.Bits.{bits}
use Rattle.bitfields.proofs.Fields.{bits_byte, bits_byte_more}
use Rattle.nav_sets.specs.Pieces.{five_of}

-- the bytes of a number that is put together of four, the highest first
digits : (a b c d : ℕ) → a < 256 → b < 256 → c < 256 → d < 256
    → (let x : ℕ = ((a * 256 + b) * 256 + c) * 256 + d in ((x / 256 ^ 3 % 256 ≡ a) × (x / 256 ^ 2 % 256 ≡ b)) × ((x / 256 % 256 ≡ c) × (x % 256 ≡ d)))
digits a b c d h i j k = ((omega arith, omega arith), (omega arith, omega arith))

pub be4_is : (a b c d : ℕ) → a < 256 → b < 256 → c < 256 → d < 256 → be4 (((a * 256 + b) * 256 + c) * 256 + d) ≡ a ∷ b ∷ c ∷ d ∷ []
unfolding be4
be4_is a b c d h i j k =
    let e = digits a b c d h i j k in
    rw (e.0.0, e.0.1, e.1.0, e.1.1)

-- the number of eight bytes of a string
pub bits_eight : (s : List ℕ) (k : ℕ) → ((i : ℕ) → get_or s i 0 < 256)
    → bits s (8 * k) 64
    ≡ get_or s k 0 * 256 ^ 7 + get_or s (k + 1) 0 * 256 ^ 6 + get_or s (k + 2) 0 * 256 ^ 5 + get_or s (k + 3) 0 * 256 ^ 4
    + get_or s (k + 4) 0 * 256 ^ 3 + get_or s (k + 5) 0 * 256 ^ 2 + get_or s (k + 6) 0 * 256 + get_or s (k + 7) 0
bits_eight s k h =
    let a = bits_byte s k (h k) in
    let b = bits_byte_more s k 1 (h (k + 1)) in
    let c = bits_byte_more s k 2 (h (k + 2)) in
    let d = bits_byte_more s k 3 (h (k + 3)) in
    let e = bits_byte_more s k 4 (h (k + 4)) in
    let f = bits_byte_more s k 5 (h (k + 5)) in
    let g = bits_byte_more s k 6 (h (k + 6)) in
    bits_byte_more s k 7 (h (k + 7)) ∙ omega (arith, a, b, c, d, e, f, g)

-- a number's eight bytes, and its last five
pub be8_is : (x : ℕ) → to_be_bytes w64 x ≡ be8 x
unfolding be4 be8
be8_is x =
    let a : x / 256 ^ 4 / 256 ^ 3 % 256 ≡ x / 256 ^ 7 % 256 = omega arith in
    let b : x / 256 ^ 4 / 256 ^ 2 % 256 ≡ x / 256 ^ 6 % 256 = omega arith in
    let c : x / 256 ^ 4 / 256 % 256 ≡ x / 256 ^ 5 % 256 = omega arith in
    let d : x % 256 ^ 4 / 256 ^ 3 % 256 ≡ x / 256 ^ 3 % 256 = omega arith in
    let e : x % 256 ^ 4 / 256 ^ 2 % 256 ≡ x / 256 ^ 2 % 256 = omega arith in
    let f : x % 256 ^ 4 / 256 % 256 ≡ x / 256 % 256 = omega arith in
    let g : x % 256 ^ 4 % 256 ≡ x % 256 = omega arith in
    rw (a, b, c, d, e, f, g)

pub five_is : (x : ℕ) → take 5 (drop 3 (to_be_bytes w64 x)) ≡ five_of x
unfolding be4 five_of
five_is x =
    let d : x % 256 ^ 4 / 256 ^ 3 % 256 ≡ x / 256 ^ 3 % 256 = omega arith in
    let e : x % 256 ^ 4 / 256 ^ 2 % 256 ≡ x / 256 ^ 2 % 256 = omega arith in
    let f : x % 256 ^ 4 / 256 % 256 ≡ x / 256 % 256 = omega arith in
    let g : x % 256 ^ 4 % 256 ≡ x % 256 = omega arith in
    rw (d, e, f, g)
