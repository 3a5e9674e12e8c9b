-- Fields and items that came: what a field that is not lost says, and what all marks 1 say. Assumes nothing.
use Prim.Native.Nat.{ℕ, zero, suc, ◌+◌, ◌*◌, ◌/◌, ◌≤◌, ◌<◌}
use mathlib.Core.Path.{◌≡◌, refl, sym, ◌∙◌, ap}
use mathlib.Core.Logic.{◌≢◌, ⊎_elim}
use mathlib.Core.Bool.{Bool, true, false, cond, not, ◌&&◌, ◌||◌}
use mathlib.Core.List.{List, [], ◌∷◌}
use native.Mathlib.Omega.{arith}
use lib.Dec.{eqb}
use lib.ListN.{length, replicate, length-append}
use borrow.Author.Tests.{ne_eqb, not-false}
use Rattle.laws.specs.Lists.{part}
use Rattle.laws.proofs.Refusal.{by_test}
use Rattle.laws.proofs.Splice.{below?, length_part}
use Rattle.laws.proofs.Tests.{and_left, and_right, neither, true_false}
use Rattle.rules.specs.Received.{field_came, received, bits_came, key_came, tag_came, info_came, flexible_came, macseq_came, field_lost}
use Rattle.rules.specs.Tags.{flexible}
use Rattle.rules.specs.declared.Chain.{Chain}

-- ---- a field that is not lost

either_second : (a b : Bool) → a ≡ true → (not a || b) ≡ true → b ≡ true
either_second true b e h = h
either_second false b e h = true_false (sym e)

module _ (config : List ℕ) (c : Chain) (time marks : ℕ) where
  -- the MAC-Info of a flexible field, where that of all came
  flexible_info : (n j : ℕ) → j < n → flexible config time j ≡ true → flexible_came config c time marks n ≡ true → info_came c marks j ≡ true
  unfolding flexible_came
  flexible_info zero j l f h = absurd (omega arith)
  flexible_info (suc n) j l f h =
      ⊎_elim
      (λ (b : j < n). flexible_info n j b f (and_left (flexible_came config c time marks n) _ h))
      (λ (b : n ≤ j).
      let e : n ≡ j = omega arith in
      either_second (flexible config time j) (info_came c marks j) f (rw e at (and_right (flexible_came config c time marks n) _ h)))
      (below? j n)

  module _ (j : ℕ) (h : field_lost config c time marks j ≡ false) where
    abbrev third : Bool
    third = cond (flexible config time j) (not (macseq_came config c time marks)) (not (eqb j 0) && not (info_came c marks j))

    pub not_lost_key : key_came c marks (j / c.fields + 1) ≡ true
    unfolding field_lost
    not_lost_key = not-false _ (neither (not (key_came c marks (j / c.fields + 1))) (not (tag_came c marks j) || (third || false)) h).0

    rest : (not (tag_came c marks j) || (third || false)) ≡ false
    unfolding field_lost
    rest = (neither (not (key_came c marks (j / c.fields + 1))) (not (tag_came c marks j) || (third || false)) h).1

    pub not_lost_tag : tag_came c marks j ≡ true
    not_lost_tag = not-false _ (neither (not (tag_came c marks j)) (third || false) rest).0

    third_false : third ≡ false
    third_false = (neither third false (neither (not (tag_came c marks j)) (third || false) rest).1).0

  by_mark : (j : ℕ) (f : Bool) → j < c.nmack * c.fields → flexible config time j ≡ f → cond f (not (macseq_came config c time marks)) (not (eqb j 0) && not (info_came c marks j)) ≡ false
      → j ≢ 0 → info_came c marks j ≡ true
  unfolding macseq_came
  by_mark j true l f h n = flexible_info (c.nmack * c.fields) j l f (and_right (bits_came marks c.ms 12) (flexible_came config c time marks (c.nmack * c.fields)) (not-false _ h))
  by_mark j false l f h n = not-false _ (rw (ne_eqb j 0 n) at h)

  pub not_lost_info : (j : ℕ) → j < c.nmack * c.fields → field_lost config c time marks j ≡ false → j ≢ 0 → info_came c marks j ≡ true
  not_lost_info j l h = by_mark j (flexible config time j) l refl (third_false j h)

-- ---- the fields as they came

field_long : (b : Bool) (f : List ℕ) (n : ℕ) → 5 * n + 5 ≤ length f → length (cond b (part f (5 * n) 5) (replicate 5 0)) ≡ 5
field_long b f n h = by_test (λ (l : List ℕ). length l ≡ 5) b (λ _. length_part f (5 * n) 5 h) (λ _. refl)

pub length-received : (marks : ℕ) (f : List ℕ) (n : ℕ) → 5 * n ≤ length f → length (received marks f n) ≡ 5 * n
unfolding received
length-received marks f zero h = refl
length-received marks f (suc n) h =
    let a = length-received marks f n (omega arith) in
    let b = field_long (field_came marks n) f n (omega arith) in
    rw (length-append (received marks f n) (cond (field_came marks n) (part f (5 * n) 5) (replicate 5 0)), a, b) (omega arith)
