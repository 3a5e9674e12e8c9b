-- Exclusive or is associative: digit by digit from the lowest.
-- Assumes nothing.
use mathlib.Core.Path.{◌≡◌, refl, sym, ap₂, ◌∙◌}
use Prim.Native.Nat.{ℕ, zero, suc, ◌+◌, ◌*◌, ◌/◌, ◌%◌, ◌<◌}
use native.Mathlib.Nat.{div-add-mod', mod-lt, zero-lt-suc, not-suc-le-zero, le_of_suc-le-suc}
use lib.Arith.{bin_ind}
use lib.Bits.{bit_xor, xor_shr, xor_mod}

pub by_digits : {a b : ℕ} → a / 2 ≡ b / 2 → a % 2 ≡ b % 2 → a ≡ b
by_digits {a} {b} p q = sym (div-add-mod' a 2) ∙ ap₂ (λ (x y : ℕ). x * 2 + y) p q ∙ div-add-mod' b 2

on_digit : (P : ℕ → Type 0) → P 0 → P 1 → (n : ℕ) → P (n % 2)
on_digit P p q n = go (n % 2) (mod-lt n (zero-lt-suc 1))
  where
    go : (d : ℕ) → d < 2 → P d
    go zero h = p
    go (suc zero) h = q
    go (suc (suc d)) h = absurd (not-suc-le-zero (le_of_suc-le-suc (le_of_suc-le-suc h)))

-- an equation of three digits, from its eight cases
pub on_digits : (P : ℕ → ℕ → ℕ → Type 0) → P 0 0 0 → P 0 0 1 → P 0 1 0 → P 0 1 1 → P 1 0 0 → P 1 0 1 → P 1 1 0 → P 1 1 1
    → (a b c : ℕ) → P (a % 2) (b % 2) (c % 2)
on_digits P p0 p1 p2 p3 p4 p5 p6 p7 a b c =
    on_digit (λ x. P x (b % 2) (c % 2))
    (on_digit (λ y. P 0 y (c % 2)) (on_digit (λ z. P 0 0 z) p0 p1 c) (on_digit (λ z. P 0 1 z) p2 p3 c) b)
    (on_digit (λ y. P 1 y (c % 2)) (on_digit (λ z. P 1 0 z) p4 p5 c) (on_digit (λ z. P 1 1 z) p6 p7 c) b)
    a

pub xor_half : (a b : ℕ) → bit_xor a b / 2 ≡ bit_xor (a / 2) (b / 2)
xor_half a b = xor_shr a b 1

pub xor_last : (a b : ℕ) → bit_xor a b % 2 ≡ bit_xor (a % 2) (b % 2)
xor_last a b = xor_mod a b 1

pub xor_assoc : (a b c : ℕ) → bit_xor (bit_xor a b) c ≡ bit_xor a (bit_xor b c)
xor_assoc =
    bin_ind (λ (n : ℕ). (b c : ℕ) → bit_xor (bit_xor n b) c ≡ bit_xor n (bit_xor b c)) (λ b c. refl)
    (λ n ih b c. by_digits (simp (xor_half, ih (b / 2) (c / 2)))
    (simp xor_last (on_digits (λ x y z. bit_xor (bit_xor x y) z ≡ bit_xor x (bit_xor y z)) refl refl refl refl refl refl refl refl n b c)))
