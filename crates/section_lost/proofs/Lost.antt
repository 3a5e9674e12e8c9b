-- Which fields of a section are lost, test by test as `field_lost` (rules, Received.antt) has them.
-- Assumes nothing.
use mathlib.Core.Path.{◌≡◌, refl, sym, ◌∙◌}
use mathlib.Core.Bool.{Bool, true, false, not, ◌&&◌, ◌||◌}
use mathlib.Core.Logic.{⊎_elim}
use mathlib.Core.List.{List}
use Prim.Native.Nat.{ℕ, zero, suc, ◌+◌, ◌*◌, ◌/◌, ◌≤◌, ◌<◌}
use native.Mathlib.Omega.{arith}
use native.Mathlib.Nat.{mul-le-mul_right, div-mul-le_self, le_trans}
use native.Mathlib.Numerals.{add-one}
use borrow.Author.Tests.{eq-eqb, ne_eqb}
use Rattle.laws.proofs.Splice.{below?}
use Rattle.laws.proofs.Tests.{or_false}
use Rattle.std.specs.Prelude.{Option, Some, None}
use Rattle.received.specs.Items.{item_at}
use Rattle.received.proofs.Cases.{item_came}
use Rattle.rules.specs.Received.{bits_came, key_came, tag_came, info_came, flexible_came, macseq_came, field_lost}
use Rattle.rules.specs.Tags.{flexible}
use Rattle.rules.specs.declared.Chain.{Chain}

and_false : (b : Bool) → (b && false) ≡ false
and_false true = refl
and_false false = refl

-- field j's block is one of the section's
pub block_in : (n f j : ℕ) → j < n * f → j / f < n
block_in n f j h =
    ⊎_elim (λ p. p)
    (λ p.
    let z : n * f ≤ j = le_trans (mul-le-mul_right f p) (div-mul-le_self j f) in
    absurd (omega arith))
    (below? (j / f) n)

-- ---- MACSEQ

module _ (config : List ℕ) (c : Chain) (time marks : ℕ) where
  pub none_flexible : flexible_came config c time marks 0 ≡ true
  unfolding flexible_came
  none_flexible = refl

  pub next_flexible : (j : ℕ) → flexible_came config c time marks (j + 1) ≡ (flexible_came config c time marks j && (not (flexible config time j) || info_came c marks j))
  unfolding flexible_came
  next_flexible j = rw (add-one j)

  -- one that did not come is enough
  pub one_lost : (n j : ℕ) → j < n → (not (flexible config time j) || info_came c marks j) ≡ false → flexible_came config c time marks n ≡ false
  unfolding flexible_came
  one_lost zero j l e = absurd (omega arith)
  one_lost (suc n) j l e =
      ⊎_elim
      (λ (b : j < n). rw (one_lost n j b e) refl)
      (λ (b : n ≤ j).
      let q : j ≡ n = omega arith in
      rw (rw q at e) (and_false (flexible_came config c time marks n)))
      (below? j n)

  pub macseq_lost : bits_came marks c.ms 12 ≡ false → macseq_came config c time marks ≡ false
  unfolding macseq_came
  macseq_lost e = rw e

  pub macseq_whole : bits_came marks c.ms 12 ≡ true → macseq_came config c time marks ≡ flexible_came config c time marks (c.nmack * c.fields)
  unfolding macseq_came
  macseq_whole e = rw e

-- ---- a field

module _ (config : List ℕ) (c : Chain) (time marks j : ℕ) where
  pub lost_key : key_came c marks (j / c.fields + 1) ≡ false → field_lost config c time marks j ≡ true
  unfolding field_lost
  lost_key k = rw k

  module _ (k : key_came c marks (j / c.fields + 1) ≡ true) where
    pub lost_tag : tag_came c marks j ≡ false → field_lost config c time marks j ≡ true
    unfolding field_lost
    lost_tag t = rw (k, t)

    module _ (t : tag_came c marks j ≡ true) where
      pub lost_macseq : flexible config time j ≡ true → field_lost config c time marks j ≡ not (macseq_came config c time marks)
      unfolding field_lost
      lost_macseq f = rw (k, t, f) (or_false (not (macseq_came config c time marks)))

      module _ (f : flexible config time j ≡ false) where
        pub first_whole : j ≡ 0 → field_lost config c time marks j ≡ false
        unfolding field_lost
        first_whole e = rw (k, t, f, eq-eqb j 0 e)

        pub by_info : (j ≡ 0 → ⊥) → field_lost config c time marks j ≡ not (info_came c marks j)
        unfolding field_lost
        by_info e = rw (k, t, f, ne_eqb j 0 e) (or_false (not (info_came c marks j)))

-- ---- an item that came, or is lost

pub some_came : (m : List ℕ) (marks at n : ℕ) (o : Option ℕ) (x : ℕ) → o ≡ item_at m marks at n → o ≡ Some x → bits_came marks at n ≡ true
some_came m marks at n o x e i = sym (item_came m marks at n) ∙ rw (← e, i) refl

pub none_came : (m : List ℕ) (marks at n : ℕ) (o : Option ℕ) → o ≡ item_at m marks at n → ((x : ℕ) → o ≡ Some x → ⊥) → bits_came marks at n ≡ false
none_came m marks at n None e h = sym (item_came m marks at n) ∙ rw (← e) refl
none_came m marks at n (Some x) e h = absurd (h x refl)
