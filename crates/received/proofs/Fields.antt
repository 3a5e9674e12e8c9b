-- One field more: those that came in their places, and how many came.
-- Assumes nothing.
use mathlib.Core.Path.{◌≡◌, refl, sym, ap, ◌∙◌}
use borrow.Author.Tests.{lt-leb}
use native.Mathlib.Nat.{div-eq_of_lt, mod-lt}
use lib.Count.{ones}
use lib.Dec.{eqb}
use lib.Pow.{shr-shr}
use Rattle.std.proofs.lemmas.Nat.{ones_cat, div-add-mod'}
use mathlib.Core.Bool.{Bool, true, false, cond}
use mathlib.Core.List.{List, ◌++◌, append_assoc}
use Prim.Native.Nat.{ℕ, zero, suc, ◌+◌, ◌-◌, ◌*◌, ◌/◌, ◌%◌, ◌^◌, ◌≤◌, ◌<◌}
use native.Mathlib.Numerals.{add-one}
use native.Mathlib.Omega.{arith}
use lib.ListN.{length, replicate, replicate-append-replicate}
use lib.Seq.{take_at, drop_at}
use Rattle.laws.specs.Lists.{part, splice}
use Rattle.laws.proofs.Splice.{length_part, drop-replicate}
use Rattle.rules.specs.Received.{field_came, fields_came, received}
use Rattle.rules.proofs.Received.{length-received}

-- zeros follow what is there
abbrev pub followed : List ℕ → ℕ → List ℕ
followed r k = r ++ replicate (75 - 5 * k) 0

module _ (r f : List ℕ) (k : ℕ) (h : k < 15) (n : length r ≡ 5 * k) (m : length f ≡ 75) where
  came : splice (followed r k) (5 * k) (part f (5 * k) 5) ≡ followed (r ++ part f (5 * k) 5) (k + 1)
  unfolding splice
  came =
      let p = length_part f (5 * k) 5 (omega arith) in
      let z : 75 - 5 * k - 5 ≡ 75 - 5 * (k + 1) = omega arith in
      rw (take_at r (replicate (75 - 5 * k) 0) (5 * k) n, drop_at r (replicate (75 - 5 * k) 0) (5 * k) n, p, drop-replicate 5 (75 - 5 * k) 0, z)
      (sym (append_assoc r (part f (5 * k) 5) (replicate (75 - 5 * (k + 1)) 0)))

  lost : followed r k ≡ followed (r ++ replicate 5 0) (k + 1)
  lost =
      let z : 75 - 5 * k ≡ 5 + (75 - 5 * (k + 1)) = omega arith in
      ap (λ (i : ℕ). r ++ replicate i 0) z
      ∙ ap (λ (l : List ℕ). r ++ l) (sym (replicate-append-replicate 5 (75 - 5 * (k + 1)) 0))
      ∙ sym (append_assoc r (replicate 5 0) (replicate (75 - 5 * (k + 1)) 0))

  pub by_mark : (b : Bool) → cond b (splice (followed r k) (5 * k) (part f (5 * k) 5)) (followed r k) ≡ followed (r ++ cond b (part f (5 * k) 5) (replicate 5 0)) (k + 1)
  by_mark true = came
  by_mark false = lost

pub next_field : (marks : ℕ) (f d e : List ℕ) (k : ℕ) → k < 15 → length f ≡ 75 → d ≡ followed (received marks f k) k
    → e ≡ cond (field_came marks k) (splice d (5 * k) (part f (5 * k) 5)) d → e ≡ followed (received marks f (k + 1)) (k + 1)
unfolding received
next_field marks f d e k h m p q =
    q ∙ rw (p, add-one k) (rw (add-one k) at (by_mark (received marks f k) f k h (length-received marks f k (omega arith)) m (field_came marks k)))

-- ---- how many came

-- a mark is a digit: 1 is one of the ones, and 0 is not
one_mark : (d : ℕ) → d < 2 → cond (eqb d 1) 1 0 ≡ ones d
unfolding ones
one_mark zero l = refl
one_mark (suc zero) l = refl
one_mark (suc (suc d)) l = absurd (omega arith)

no_ones : 0 ≡ ones 0
unfolding ones
no_ones = refl

-- the first k marks stand above the other 16 - k
pub came_is : (marks k : ℕ) → marks < 2 ^ 16 → k ≤ 15 → fields_came marks k ≡ ones (marks / 2 ^ (16 - k))
unfolding fields_came field_came
came_is marks zero l h = rw (div-eq_of_lt l) no_ones
came_is marks (suc k) l h =
    let x = marks / 2 ^ (15 - k) in
    let e : 16 - k ≡ 15 - k + 1 = omega arith in
    let d : x % 2 < 2 = mod-lt x (omega arith) in
    let s : x / 2 * 2 + x % 2 ≡ x = div-add-mod' x 2 in
    let p : 16 - suc k ≡ 15 - k = omega arith in
    rw (lt-leb 15 k (omega arith), one_mark (x % 2) d, came_is marks k l (omega arith), e, p)
    (rw (← (shr-shr marks (15 - k) 1)) (sym (ones_cat 1 (x / 2) (x % 2) d) ∙ ap ones s))
