-- The number of free valves' digits: each digit is its valve's, and there are no others.
-- Assumes nothing.
use mathlib.Core.Path.{◌≡◌, refl}
use mathlib.Core.Bool.{Bool, true, false, cond}
use mathlib.Core.List.{List}
use Prim.Native.Nat.{ℕ, zero, suc, ◌+◌, ◌-◌, ◌*◌, ◌/◌, ◌%◌, ◌^◌, ◌≤◌, ◌<◌}
use native.Mathlib.Nat.{lt_of_lt_of_le, two-pow-succ, pow-succ', div-div-eq-div-mul}
use native.Mathlib.Numerals.{add-one}
use native.Mathlib.Omega.{arith}
use lib.Dec.{eqb}
use lib.ListN.{get_or}
use lib.Pow.{pow_mono}
use borrow.Author.Tests.{ne_eqb}
use Rattle.valve_rules.specs.Valve.{Valve, free, closed2, closed1, closed, is_free}
use Rattle.valve_rules.specs.Gate.{valve_of, valve_at, free_digit, last_digits, free_valves}

pub digit_small : (v : Valve) → free_digit v ≤ 1
unfolding free_digit
digit_small free = omega arith
digit_small closed2 = omega arith
digit_small closed1 = omega arith
digit_small closed = omega arith

pub three_free : (v : ℕ) → v ≡ 3 → 1 ≡ free_digit (valve_of v)
unfolding free_digit valve_of
three_free v e = rw e

pub else_closed : (v : ℕ) → (v ≡ 3 → ⊥) → 0 ≡ free_digit (valve_of v)
unfolding free_digit valve_of
else_closed v n = rw (ne_eqb v 3 n) (go (eqb v 2) (eqb v 1))
  where
    go : (a b : Bool) → ◌≡◌ {A = ℕ} 0 (cond (is_free (cond a closed2 (cond b closed1 closed))) 1 0)
    go true b = refl
    go false true = refl
    go false false = refl

pub digits_small : (g : List ℕ) (n : ℕ) → last_digits g n < 2 ^ n
unfolding last_digits
digits_small g zero = omega arith
digits_small g (suc n) = rw (two-pow-succ n) (omega (arith, digits_small g n, digit_small (valve_at g (47 - n))))

digit_of : (g : List ℕ) (n k : ℕ) → n ≤ 48 → k < n → last_digits g n / 2 ^ k % 2 ≡ free_digit (valve_at g (48 - n + k))
unfolding last_digits
digit_of g zero k l h = absurd (omega arith)
digit_of g (suc n) zero l h =
    let at : 48 - suc n + 0 ≡ 47 - n = omega arith in
    rw at (omega (arith, digit_small (valve_at g (47 - n))))
digit_of g (suc n) (suc k) l h =
    let at : 48 - suc n + suc k ≡ 48 - n + k = omega arith in
    let half : (free_digit (valve_at g (47 - n)) + 2 * last_digits g n) / 2 ≡ last_digits g n = omega (arith, digit_small (valve_at g (47 - n))) in
    rw (at, pow-succ' 2 k, ← (div-div-eq-div-mul (free_digit (valve_at g (47 - n)) + 2 * last_digits g n) 2 (2 ^ k)), half) (digit_of g n k (omega arith) (omega arith))

pub free_digit_lem : (g : List ℕ) (k : ℕ) → k < 48 → free_valves g / 2 ^ k % 2 ≡ cond (is_free (valve_at g k)) 1 0
unfolding free_valves free_digit
free_digit_lem g k h =
    let at : 48 - 48 + k ≡ k = omega arith in
    rw at at (digit_of g 48 k (omega arith) h)

pub free_small : (g : List ℕ) → free_valves g < 2 ^ 48
unfolding free_valves
free_small g = digits_small g 48

-- one valve more
pub one_digit : (g : List ℕ) (n f d : ℕ) → f ≡ last_digits g n → d ≡ free_digit (valve_of (get_or g (47 - n) 0)) → d + 2 * f ≡ last_digits g (n + 1)
unfolding last_digits valve_at
one_digit g n f d e h = rw (e, h, add-one n)

pub room : (g : List ℕ) (n f : ℕ) → n ≤ 47 → f ≡ last_digits g n → f < 140737488355328
room g n f h e = rw e (lt_of_lt_of_le (digits_small g n) (pow_mono h))
