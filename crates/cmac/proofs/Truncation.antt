-- A truncated code: its bytes, its length, and its bits.
-- Assumes nothing.
use mathlib.Core.Path.{◌≡◌, refl, sym, ap, ◌∙◌}
use mathlib.Core.Bool.{cond}
use mathlib.Core.Logic.{⊎_elim}
use mathlib.Core.List.{List, [], ◌∷◌}
use Prim.Native.Nat.{ℕ, zero, suc, ◌+◌, ◌-◌, ◌*◌, ◌/◌, ◌%◌, ◌^◌, ◌≤◌, ◌<◌, min}
use native.Mathlib.Nat.{mul_assoc}
use native.Mathlib.Numerals.{unary_clauses}
use native.Mathlib.Omega.{arith}
use lib.Dec.{ltb}
use lib.Bits.{shifted_even}
use lib.Pow.{split, shr-shr, shl-shr, pow-add}
use borrow.Author.Tests.{lt-ltb, le-ltb}
use Rattle.laws.proofs.Splice.{below?}
use lib.ListN.{length, get_or, take}
use Rattle.cmac.specs.Cmac as S

pub length-truncated : (n : ℕ) (code : List ℕ) → length (S.truncated n code) ≡ length code
unfolding S.truncated
length-truncated n [] = refl
length-truncated n (x ∷ xs) = ap suc (length-truncated (n - 8) xs)

-- a zero byte stays
first_zero : (n : ℕ) → S.first_bits n 0 ≡ 0
unfolding S.first_bits
first_zero n = omega (arith, split 0 (8 - n))

pub get_or-truncated : (n : ℕ) (code : List ℕ) (i : ℕ) → get_or (S.truncated n code) i 0 ≡ S.first_bits (n - 8 * i) (get_or code i 0)
unfolding S.truncated
get_or-truncated n [] i = sym (first_zero (n - 8 * i))
get_or-truncated n (x ∷ xs) zero = simp unary_clauses
get_or-truncated n (x ∷ xs) (suc i) =
    let e : n - 8 - 8 * i ≡ n - 8 * suc i = omega arith in
    get_or-truncated (n - 8) xs i ∙ ap (λ (k : ℕ). S.first_bits k (get_or xs i 0)) e

-- whole bytes are kept
first_all : (n x : ℕ) → 8 ≤ n → S.first_bits n x ≡ x
unfolding S.first_bits
first_all n x h =
    let e : 8 - n ≡ 0 = omega arith in
    rw e (omega arith)

pub whole_bytes : (n : ℕ) (code : List ℕ) (k : ℕ) → 8 * k ≤ n → take k code ≡ take k (S.truncated n code)
unfolding S.truncated
whole_bytes n [] k h = refl
whole_bytes n (x ∷ xs) zero h = refl
whole_bytes n (x ∷ xs) (suc k) h = rw (first_all n x (omega arith), ← whole_bytes (n - 8) xs k (omega arith))

fits : (x y r : ℕ) → y + r ≡ x → x < 256 → y % 65536 ≡ y
fits x y r e h = omega arith

-- what is left of a byte after the two shifts
pub first_shifted : (n s x y : ℕ) → s ≡ min n 8 → y ≡ x → x < 256 → y / 2 ^ (8 - s) * 2 ^ (8 - s) % 65536 ≡ S.first_bits n x
unfolding S.first_bits
first_shifted n s x y e f h =
    let d : 8 - s ≡ 8 - n = omega arith in
    rw (d, f) (fits x (x / 2 ^ (8 - n) * 2 ^ (8 - n)) (x % 2 ^ (8 - n)) (split x (8 - n)) h)

-- ---- bits
-- bit j of a byte of which the first k bits are kept
kept-bit : (k x j : ℕ) → j < k → j < 8 → S.first_bits k x / 2 ^ (7 - j) % 2 ≡ x / 2 ^ (7 - j) % 2
unfolding S.first_bits
kept-bit k x j h g =
    let s : ℕ = 8 - k in
    let d : ℕ = 7 - j - (8 - k) in
    let e : 7 - j ≡ s + d = omega arith in
    rw e (ap (λ (y : ℕ). y % 2) (sym (shr-shr (x / 2 ^ s * 2 ^ s) s d) ∙ ap (λ (y : ℕ). y / 2 ^ d) (shl-shr (x / 2 ^ s) s) ∙ shr-shr x s d))

cut_bit : (k x j : ℕ) → k ≤ j → j < 8 → S.first_bits k x / 2 ^ (7 - j) % 2 ≡ 0
unfolding S.first_bits
cut_bit k x j h g =
    let t : ℕ = 7 - j in
    let d : ℕ = 8 - k - (7 - j) - 1 in
    let e : 8 - k ≡ suc d + t = omega arith in
    let y : ℕ = x / 2 ^ (8 - k) in
    let p : y * 2 ^ (8 - k) ≡ y * 2 ^ suc d * 2 ^ t = ap (λ (n : ℕ). y * 2 ^ n) e ∙ ap (λ (n : ℕ). y * n) (pow-add 2 (suc d) t) ∙ sym (mul_assoc y (2 ^ suc d) (2 ^ t)) in
    rw (p, shl-shr (y * 2 ^ suc d) t) (shifted_even y d)

-- bit i of a truncated code is the code's for i below n, and 0 from there on
pub bit-truncated : (n : ℕ) (code : List ℕ) (i : ℕ) → S.bit (S.truncated n code) i ≡ cond (ltb i n) (S.bit code i) 0
unfolding S.bit
bit-truncated n code i =
    rw (get_or-truncated n code (i / 8))
    (⊎_elim
    (λ h. kept-bit (n - 8 * (i / 8)) (get_or code (i / 8) 0) (i % 8) (omega arith) (omega arith) ∙ rw (lt-ltb i n h))
    (λ h. cut_bit (n - 8 * (i / 8)) (get_or code (i / 8) 0) (i % 8) (omega arith) (omega arith) ∙ rw (le-ltb i n h))
    (below? i n))
