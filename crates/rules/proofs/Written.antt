-- A satellite's places written back as they were read, or with one thing in them new: for a program that writes only what changes. Assumes nothing.
use Prim.Native.Nat.{ℕ, ◌+◌, ◌-◌, ◌*◌, ◌≤◌, ◌<◌}
use mathlib.Core.Path.{◌≡◌, sym, ◌∙◌, ap}
use mathlib.Core.Logic.{⊎_elim}
use mathlib.Core.Bool.{true}
use mathlib.Core.List.{List}
use native.Mathlib.Omega.{arith}
use lib.Dec.{eqb}
use lib.ListN.{length, get_or, set, length-set}
use lib.Seq.{ext_get_or, get_or-set_same, get_or-set_other}
use borrow.Author.Tests.{eqb-true, eqb-false}
use Rattle.laws.specs.Lists.{part, splice}
use Rattle.laws.proofs.Splice.{length_part, length_splice, get_d_part, get_or_splice_below, get_or_splice_in, get_or_splice_past, part_splice_past, either, below?}
use Rattle.rules.specs.Candidates.{SetPair, pair_at, sets_with, arrivals_with}
use Rattle.rules.specs.State.{prn_valid, satellites, sets_length, arrivals_length, copy_length}
use Rattle.rules.proofs.Bounds.{prn_range}

-- ---- lists

pub splice_back : (d : List ℕ) (a n : ℕ) → a + n ≤ length d → splice d a (part d a n) ≡ d
splice_back d a n h = ext_get_or 0 (splice d a (part d a n)) d long (λ i k. same_at i)
  where
    size : length (part d a n) ≡ n
    size = length_part d a n h

    fits : a + length (part d a n) ≤ length d
    fits =
        let z = size in
        omega arith

    long : length (splice d a (part d a n)) ≡ length d
    long = length_splice d a (part d a n) fits

    inside : (i : ℕ) → a ≤ i → i < a + n → get_or (splice d a (part d a n)) i 0 ≡ get_or d i 0
    inside i low high =
        let z = size in
        let e : i ≡ a + (i - a) = omega arith in
        ap (λ (j : ℕ). get_or (splice d a (part d a n)) j 0) e
        ∙ get_or_splice_in d a (part d a n) fits (i - a) (omega arith)
        ∙ get_d_part d a n (i - a) (omega arith)
        ∙ ap (λ (j : ℕ). get_or d j 0) (sym e)

    same_at : (i : ℕ) → get_or (splice d a (part d a n)) i 0 ≡ get_or d i 0
    same_at i =
        let z = size in
        ⊎_elim
        (λ (g : i < a). get_or_splice_below d a (part d a n) fits i g)
        (λ (g : a ≤ i).
        ⊎_elim
        (λ (f : i < a + n). inside i g f)
        (λ (f : a + n ≤ i). get_or_splice_past d a (part d a n) fits i (omega arith))
        (below? i (a + n)))
        (below? i a)

pub set_back : (d : List ℕ) (i : ℕ) → i < length d → set d i (get_or d i 0) ≡ d
set_back d i h = ext_get_or 0 (set d i (get_or d i 0)) d (length-set d i (get_or d i 0)) (λ j k. same_at j)
  where
    same_at : (j : ℕ) → get_or (set d i (get_or d i 0)) j 0 ≡ get_or d j 0
    same_at j =
        ⊎_elim
        (λ e. (
        let q = eqb-true j i e in
        rw q (get_or-set_same d i (get_or d i 0) 0 h)
        ))
        (λ e. get_or-set_other d i j (get_or d i 0) 0 (eqb-false j i e))
        (either (eqb j i))

-- ---- a satellite

module _ (sets arrivals : List ℕ) (prn : ℕ) (sets_size : length sets ≡ sets_length) (arrivals_size : length arrivals ≡ arrivals_length) (valid : prn_valid prn ≡ true) where
  abbrev i : ℕ
  i = prn - 1

  abbrev p : SetPair
  p = pair_at sets arrivals prn

  low : i < 36
  low =
      let r = prn_range prn valid in
      let a = r.0 in
      let b = r.1 in
      omega arith

  -- the authentic set is new, the candidate is as it was
  pub new_set : (q : SetPair) → length q.set ≡ copy_length → q.candidate ≡ p.candidate → sets_with sets prn q ≡ splice sets (i * copy_length) q.set
  unfolding sets_with pair_at
  new_set q h e =
      let b = low in
      let fits : i * copy_length + length q.set ≤ length sets = omega arith in
      let s = length_splice sets (i * copy_length) q.set fits in
      let f = part_splice_past sets (i * copy_length) q.set fits ((satellites + i) * copy_length) copy_length (omega arith) (omega arith) in
      rw (e, ← f) (splice_back (splice sets (i * copy_length) q.set) ((satellites + i) * copy_length) copy_length (omega arith))

  -- the candidate is new, the authentic set is as it was
  pub new_candidate : (q : SetPair) → q.set ≡ p.set → sets_with sets prn q ≡ splice sets ((satellites + i) * copy_length) q.candidate
  unfolding sets_with pair_at
  new_candidate q e =
      let b = low in
      ap (λ (d : List ℕ). splice (splice sets (i * copy_length) d) ((satellites + i) * copy_length) q.candidate) e
      ∙ ap (λ (d : List ℕ). splice d ((satellites + i) * copy_length) q.candidate) (splice_back sets (i * copy_length) copy_length (omega arith))

  -- both are as they were
  pub sets_back : (q : SetPair) → q.set ≡ p.set → q.candidate ≡ p.candidate → sets_with sets prn q ≡ sets
  unfolding pair_at
  sets_back q e f =
      let b = low in
      new_candidate q e ∙ ap (splice sets ((satellites + i) * copy_length)) f ∙ splice_back sets ((satellites + i) * copy_length) copy_length (omega arith)

  -- the stamp of the authentic set is new, the candidate's numbers are as they were
  pub new_stamp : (q : SetPair) → q.latest ≡ p.latest → q.total ≡ p.total → arrivals_with arrivals prn q ≡ set arrivals i q.stamp
  unfolding arrivals_with pair_at
  new_stamp q e f =
      let b = low in
      let a1 = set arrivals i q.stamp in
      let n = length-set arrivals i q.stamp in
      let g2 : get_or arrivals (satellites + i) 0 ≡ get_or a1 (satellites + i) 0 = sym (get_or-set_other arrivals i (satellites + i) q.stamp 0 (λ z. absurd (omega (arith, z)))) in
      let g3 : get_or arrivals (2 * satellites + i) 0 ≡ get_or a1 (2 * satellites + i) 0 = sym (get_or-set_other arrivals i (2 * satellites + i) q.stamp 0 (λ z. absurd (omega (arith, z)))) in
      let s2 : set a1 (satellites + i) q.latest ≡ a1 = ap (set a1 (satellites + i)) (e ∙ g2) ∙ set_back a1 (satellites + i) (omega arith) in
      let s3 : set a1 (2 * satellites + i) q.total ≡ a1 = ap (set a1 (2 * satellites + i)) (f ∙ g3) ∙ set_back a1 (2 * satellites + i) (omega arith) in
      ap (λ (d : List ℕ). set d (2 * satellites + i) q.total) s2 ∙ s3

  -- the candidate's numbers are new, the stamp of the authentic set is as it was
  pub new_numbers : (q : SetPair) → q.stamp ≡ p.stamp → arrivals_with arrivals prn q ≡ set (set arrivals (satellites + i) q.latest) (2 * satellites + i) q.total
  unfolding arrivals_with pair_at
  new_numbers q e =
      let b = low in
      let s : set arrivals i q.stamp ≡ arrivals = ap (set arrivals i) e ∙ set_back arrivals i (omega arith) in
      ap (λ (d : List ℕ). set (set d (satellites + i) q.latest) (2 * satellites + i) q.total) s

  -- all are as they were
  pub arrivals_back : (q : SetPair) → q.stamp ≡ p.stamp → q.latest ≡ p.latest → q.total ≡ p.total → arrivals_with arrivals prn q ≡ arrivals
  unfolding pair_at
  arrivals_back q e f g =
      let b = low in
      new_stamp q f g ∙ ap (set arrivals i) e ∙ set_back arrivals i (omega arith)
