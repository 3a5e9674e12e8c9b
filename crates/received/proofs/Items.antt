-- Bits and fields: all bits of an item came if every field from its first bit's to its last bit's came, and not if one of these is missing.
-- Assumes nothing.
use mathlib.Core.Path.{◌≡◌, refl, sym, ◌∙◌}
use mathlib.Core.Bool.{Bool, true, false, ◌&&◌}
use mathlib.Core.Logic.{◌⊎◌, inl, inr, ⊎_elim}
use Prim.Native.Nat.{ℕ, zero, suc, ◌+◌, ◌-◌, ◌*◌, ◌/◌, ◌%◌, ◌^◌, ◌≤◌, ◌<◌}
use native.Mathlib.Omega.{arith}
use native.Mathlib.Nat.{mod-lt}
use lib.Dec.{eqb}
use lib.Pow.{pow_pos, pow-lt, pow-add, shr-shr, mod-pow-add}
use borrow.Author.Tests.{lt-leb, eq-eqb, eqb-true, eqb-false}
use Rattle.laws.proofs.Splice.{below?}
use Rattle.rules.specs.Received.{field_came, bits_came}

and_false : (b : Bool) → (b && false) ≡ false
and_false true = refl
and_false false = refl

by_bits : (marks at n : ℕ) → ((i : ℕ) → i < n → field_came marks ((at + i) / 32) ≡ true) → bits_came marks at n ≡ true
unfolding bits_came
by_bits marks at zero h = refl
by_bits marks at (suc n) h = rw (by_bits marks at n (λ i l. h i (omega arith)), h n (omega arith)) refl

one_bit : (marks at n i : ℕ) → i < n → field_came marks ((at + i) / 32) ≡ false → bits_came marks at n ≡ false
unfolding bits_came
one_bit marks at zero i l h = absurd (omega arith)
one_bit marks at (suc n) i l h =
    ⊎_elim
    (λ (b : i < n). rw (one_bit marks at n i b h) refl)
    (λ (b : n ≤ i).
    let e : i ≡ n = omega arith in
    let z : field_came marks ((at + n) / 32) ≡ false = rw e at h in
    rw z (and_false (bits_came marks at n)))
    (below? i n)

pub no_bits : (marks at n : ℕ) → n ≡ 0 → bits_came marks at n ≡ true
unfolding bits_came
no_bits marks at n e = rw e refl

-- the fields up to field p, not included, came
pub all-fields : (marks at n p : ℕ) → at + n ≤ 32 * p → ((j : ℕ) → at / 32 ≤ j → j < p → field_came marks j ≡ true) → bits_came marks at n ≡ true
all-fields marks at n p l h = by_bits marks at n (λ i b. h ((at + i) / 32) (omega arith) (omega arith))

-- field p is missing
pub one_field : (marks at n p : ℕ) → at / 32 ≤ p → 32 * p < at + n → 1 ≤ n → field_came marks p ≡ false → bits_came marks at n ≡ false
one_field marks at n p low high some h =
    let e : (at + (32 * p - at)) / 32 ≡ p = omega arith in
    one_bit marks at n (32 * p - at) (omega arith) (rw e h)

-- ---- a run of marks

-- the digit above k digits, and those
module _ (x k : ℕ) where
  abbrev top : ℕ
  top = x / 2 ^ k % 2 ^ 1

  two_parts : x % 2 ^ suc k ≡ top * 2 ^ k + x % 2 ^ k
  two_parts =
      let e : suc k ≡ 1 + k = omega arith in
      rw e (mod-pow-add x 1 k)

  small : x % 2 ^ k < 2 ^ k
  small = mod-lt x (pow_pos k)

  one_or_none : (top ≡ 0) ⊎ (top ≡ 1)
  one_or_none =
      let b : top < 2 = mod-lt (x / 2 ^ k) (pow_pos 1) in
      ⊎_elim (λ (l : top < 1). inl (omega arith)) (λ l. inr (omega arith)) (below? top 1)

  double : 2 ^ suc k ≡ 2 * 2 ^ k
  double =
      let e : suc k ≡ 1 + k = omega arith in
      rw e (pow-add 2 1 k)

  -- all ones: the top one is, and those below it are
  pub ones : x % 2 ^ suc k ≡ 2 ^ suc k - 1 → (top ≡ 1) × (x % 2 ^ k ≡ 2 ^ k - 1)
  ones h =
      let s = small in
      let d = double in
      let t = two_parts in
      ⊎_elim
      (λ (e : top ≡ 0).
      let u : x % 2 ^ suc k ≡ x % 2 ^ k = t ∙ rw e (omega arith) in
      absurd (omega arith))
      (λ (e : top ≡ 1).
      let u : x % 2 ^ suc k ≡ 2 ^ k + x % 2 ^ k = t ∙ rw e (omega arith) in
      (e, omega arith))
      one_or_none

  pub not_ones : (x % 2 ^ suc k ≡ 2 ^ suc k - 1 → ⊥) → (top ≡ 0) ⊎ (x % 2 ^ k ≡ 2 ^ k - 1 → ⊥)
  not_ones h =
      let s = small in
      let d = double in
      let t = two_parts in
      ⊎_elim
      (λ (e : top ≡ 0). inl e)
      (λ (e : top ≡ 1).
      let u : x % 2 ^ suc k ≡ 2 ^ k + x % 2 ^ k = t ∙ rw e (omega arith) in
      inr (λ z. h (omega arith)))
      one_or_none

-- the mark of field last - k is the digit above k digits
mark_is : (marks last k : ℕ) → last ≤ 14 → k ≤ last → field_came marks (last - k) ≡ eqb (top (marks / 2 ^ (15 - last)) k) 1
unfolding field_came
mark_is marks last k l m =
    let f : 15 - (last - k) ≡ 15 - last + k = omega arith in
    rw (lt-leb 15 (last - k) (omega arith), f, shr-shr marks (15 - last) k)

pub all_ones : (marks last k : ℕ) → last ≤ 14 → k ≤ last + 1 → marks / 2 ^ (15 - last) % 2 ^ k ≡ 2 ^ k - 1 → (j : ℕ) → j < k → field_came marks (last - j) ≡ true
all_ones marks last zero l m h j b = absurd (omega arith)
all_ones marks last (suc k) l m h j b =
    let o = ones (marks / 2 ^ (15 - last)) k h in
    ⊎_elim
    (λ (a : j < k). all_ones marks last k l (omega arith) o.1 j a)
    (λ (a : k ≤ j).
    let q : j ≡ k = omega arith in
    rw q (mark_is marks last k l (omega arith) ∙ eq-eqb _ 1 o.0))
    (below? j k)

pub one_missing : (marks last k : ℕ) → last ≤ 14 → k ≤ last + 1 → (marks / 2 ^ (15 - last) % 2 ^ k ≡ 2 ^ k - 1 → ⊥) → (j : ℕ) × ((j < k) × (field_came marks (last - j) ≡ false))
one_missing marks last zero l m h = absurd (h (omega (arith, mod-lt (marks / 2 ^ (15 - last)) (pow_pos 0))))
one_missing marks last (suc k) l m h =
    ⊎_elim
    (λ (e : top (marks / 2 ^ (15 - last)) k ≡ 0). (k, (omega arith, mark_is marks last k l (omega arith) ∙ rw e refl)))
    (λ n.
    let r = one_missing marks last k l (omega arith) n in
    (r.0, (omega (arith, r.1.0), r.1.1)))
    (not_ones (marks / 2 ^ (15 - last)) k h)

-- 2 ^ r in sixteen bits
whole_is : (r : ℕ) → r < 16 → 1 * 2 ^ r % 65536 ≡ 2 ^ r
whole_is r h =
    let l : 2 ^ r < 65536 = pow-lt {i = r} {j = 16} h in
    omega arith

pub whole_positive : (r : ℕ) → r < 16 → 0 < 1 * 2 ^ r % 65536
whole_positive r h = rw (whole_is r h) (pow_pos r)

-- the bits by the run of marks from the first bit's field to the last bit's
module _ (marks at n last : ℕ) (some : 1 ≤ n) (last_is : last ≡ (at + n - 1) / 32) (high : last ≤ 14) where
  abbrev run : ℕ
  run = last - at / 32 + 1

  came_by_ones : marks / 2 ^ (15 - last) % 2 ^ run ≡ 2 ^ run - 1 → bits_came marks at n ≡ true
  came_by_ones h =
      all-fields marks at n (last + 1) (omega arith)
      (λ j l b.
      let e : last - (last - j) ≡ j = omega arith in
      rw (← e) (all_ones marks last run high (omega arith) h (last - j) (omega arith)))

  lost_by_ones : (marks / 2 ^ (15 - last) % 2 ^ run ≡ 2 ^ run - 1 → ⊥) → bits_came marks at n ≡ false
  lost_by_ones h =
      let r = one_missing marks last run high (omega arith) h in
      one_field marks at n (last - r.0) (omega (arith, r.1.0)) (omega (arith, r.1.0)) some r.1.1

  by_ones : (r : Bool) → r ≡ eqb (marks / 2 ^ (15 - last) % 2 ^ run) (2 ^ run - 1) → r ≡ bits_came marks at n
  by_ones true e = sym (came_by_ones (eqb-true _ _ (sym e)))
  by_ones false e = sym (lost_by_ones (eqb-false _ _ (sym e)))

  pub by_run : eqb (marks / 2 ^ (15 - last) % (1 * 2 ^ run % 65536)) (1 * 2 ^ run % 65536 - 1) ≡ bits_came marks at n
  by_run = rw (whole_is run (omega arith)) (by_ones _ refl)
