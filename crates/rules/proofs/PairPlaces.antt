-- The places of a satellite's authentic set and candidate: what is read of what was written there, and beside it. Assumes nothing.
use Prim.Native.Nat.{ℕ, ◌+◌, ◌-◌, ◌*◌, ◌≤◌, ◌<◌}
use mathlib.Core.Path.{◌≡◌, refl, sym, ◌∙◌}
use mathlib.Core.Logic.{◌≢◌, ◌⊎◌, inl, inr, ⊎_elim}
use mathlib.Core.Bool.{true}
use mathlib.Core.List.{List}
use native.Mathlib.Omega.{arith}
use lib.ListN.{length, get_or, set, replicate, length-set, length-replicate}
use lib.Seq.{get_or-set_same, get_or-set_other}
use Rattle.laws.specs.Lists.{part, splice}
use Rattle.laws.proofs.Splice.{length_part, length_splice, part_splice_same, part_splice_below, get_or_splice_below, get_or_splice_in, below?}
use Rattle.rules.specs.Candidates.{SetPair, pair_at, sets_with, arrivals_with, candidates_cleared}
use Rattle.rules.specs.State.{Auth, prn_valid, satellites, sets_length, arrivals_length, copy_length}
use Rattle.rules.proofs.Agreements.{Whole}
use Rattle.rules.proofs.Bounds.{prn_range}
use Rattle.rules.proofs.Parts.{get_or-zeros, part_beside}

-- a satellite's places
record Low (prn : ℕ) : Type 0 where
  below : prn - 1 < 36

low : (prn : ℕ) → prn_valid prn ≡ true → Low prn
low prn v =
    let r = prn_range prn v in
    let a = r.0 in
    let b = r.1 in
    record { below = omega arith }

pub pair_whole : (sets arrivals : List ℕ) (prn : ℕ) → length sets ≡ sets_length → prn_valid prn ≡ true → Whole (pair_at sets arrivals prn)
unfolding pair_at
pair_whole sets arrivals prn h v =
    let b = (low prn v).below in
    record { set = length_part sets ((prn - 1) * copy_length) copy_length (omega arith); candidate = length_part sets ((satellites + (prn - 1)) * copy_length) copy_length (omega arith) }

module _ (sets arrivals : List ℕ) (prn : ℕ) (p : SetPair) (sets_size : length sets ≡ sets_length) (arrivals_size : length arrivals ≡ arrivals_length) (valid : prn_valid prn ≡ true) (w : Whole p) where
  abbrev i : ℕ
  i = prn - 1

  -- with the authentic set alone
  abbrev sets1 : List ℕ
  sets1 = splice sets (i * copy_length) p.set

  fits : i * copy_length + length p.set ≤ length sets
  fits =
      let b = (low prn valid).below in
      let s = w.set in
      omega arith

  size1 : length sets1 ≡ sets_length
  size1 = length_splice sets (i * copy_length) p.set fits ∙ sets_size

  fits1 : (satellites + i) * copy_length + length p.candidate ≤ length sets1
  fits1 =
      let b = (low prn valid).below in
      let s = w.candidate in
      let z = size1 in
      omega arith

  pub sets_with_size : length (sets_with sets prn p) ≡ sets_length
  unfolding sets_with
  sets_with_size = length_splice sets1 ((satellites + i) * copy_length) p.candidate fits1 ∙ size1

  pub arrivals_with_size : length (arrivals_with arrivals prn p) ≡ arrivals_length
  unfolding arrivals_with
  arrivals_with_size =
      length-set (set (set arrivals i p.stamp) (satellites + i) p.latest) (2 * satellites + i) p.total
      ∙ length-set (set arrivals i p.stamp) (satellites + i) p.latest
      ∙ length-set arrivals i p.stamp
      ∙ arrivals_size

  -- ---- its own places

  pub pair_same : pair_at (sets_with sets prn p) (arrivals_with arrivals prn p) prn ≡ p
  unfolding pair_at sets_with arrivals_with
  pair_same =
      let b = (low prn valid).below in
      let n1 = length-set arrivals i p.stamp in
      let n2 = length-set (set arrivals i p.stamp) (satellites + i) p.latest in
      let s1 : part (splice sets1 ((satellites + i) * copy_length) p.candidate) (i * copy_length) copy_length ≡ p.set =
      part_splice_below sets1 ((satellites + i) * copy_length) p.candidate fits1 (i * copy_length) copy_length (omega arith)
      ∙ part_splice_same sets (i * copy_length) p.set fits copy_length (sym w.set) in
      let s2 : part (splice sets1 ((satellites + i) * copy_length) p.candidate) ((satellites + i) * copy_length) copy_length ≡ p.candidate =
      part_splice_same sets1 ((satellites + i) * copy_length) p.candidate fits1 copy_length (sym w.candidate) in
      let a1 : get_or (set (set (set arrivals i p.stamp) (satellites + i) p.latest) (2 * satellites + i) p.total) i 0 ≡ p.stamp =
      get_or-set_other (set (set arrivals i p.stamp) (satellites + i) p.latest) (2 * satellites + i) i p.total 0 (λ z. absurd (omega (arith, z)))
      ∙ get_or-set_other (set arrivals i p.stamp) (satellites + i) i p.latest 0 (λ z. absurd (omega (arith, z)))
      ∙ get_or-set_same arrivals i p.stamp 0 (omega arith) in
      let a2 : get_or (set (set (set arrivals i p.stamp) (satellites + i) p.latest) (2 * satellites + i) p.total) (satellites + i) 0 ≡ p.latest =
      get_or-set_other (set (set arrivals i p.stamp) (satellites + i) p.latest) (2 * satellites + i) (satellites + i) p.total 0 (λ z. absurd (omega (arith, z)))
      ∙ get_or-set_same (set arrivals i p.stamp) (satellites + i) p.latest 0 (omega arith) in
      let a3 : get_or (set (set (set arrivals i p.stamp) (satellites + i) p.latest) (2 * satellites + i) p.total) (2 * satellites + i) 0 ≡ p.total =
      get_or-set_same (set (set arrivals i p.stamp) (satellites + i) p.latest) (2 * satellites + i) p.total 0 (omega arith) in
      rw (s1, a1, s2, a2, a3) refl

  -- ---- the others'

  module _ (other : ℕ) (other-valid : prn_valid other ≡ true) (apart : other ≢ prn) where
    abbrev j : ℕ
    j = other - 1

    indices : j ≢ i
    indices z =
        let r = prn_range other other-valid in
        let q = prn_range prn valid in
        let a = r.0 in
        let b = q.0 in
        apart (omega (arith, z))

    -- a place that no write touches
    get_or_apart : (k : ℕ) → k ≢ i → k ≢ satellites + i → k ≢ 2 * satellites + i
        → get_or (set (set (set arrivals i p.stamp) (satellites + i) p.latest) (2 * satellites + i) p.total) k 0 ≡ get_or arrivals k 0
    get_or_apart k x y z =
        get_or-set_other (set (set arrivals i p.stamp) (satellites + i) p.latest) (2 * satellites + i) k p.total 0 z
        ∙ get_or-set_other (set arrivals i p.stamp) (satellites + i) k p.latest 0 y
        ∙ get_or-set_other arrivals i k p.stamp 0 x

    -- place k of the 72
    part_apart : (k : ℕ) → k < 72 → k ≢ i → k ≢ satellites + i → part (splice sets1 ((satellites + i) * copy_length) p.candidate) (k * copy_length) copy_length ≡ part sets (k * copy_length) copy_length
    part_apart k h x y =
        let z = size1 in
        let s = w.set in
        let t = w.candidate in
        part_beside sets1 ((satellites + i) * copy_length) p.candidate fits1 (k * copy_length) copy_length (omega arith)
        (⊎_elim (λ g. inl (omega arith)) (λ g. inr (omega (arith, y, g, t))) (below? k (satellites + i)))
        ∙ part_beside sets (i * copy_length) p.set fits (k * copy_length) copy_length (omega arith)
        (⊎_elim (λ g. inl (omega arith)) (λ g. inr (omega (arith, x, g, s))) (below? k i))

    pub pair_other : pair_at (sets_with sets prn p) (arrivals_with arrivals prn p) other ≡ pair_at sets arrivals other
    unfolding pair_at sets_with arrivals_with
    pair_other =
        let b = (low prn valid).below in
        let d = (low other other-valid).below in
        let n = indices in
        let s1 = part_apart j (omega arith) n (λ z. absurd (omega (arith, z))) in
        let s2 = part_apart (satellites + j) (omega arith) (λ z. absurd (omega (arith, z))) (λ z. n (omega (arith, z))) in
        let a1 = get_or_apart j n (λ z. absurd (omega (arith, z))) (λ z. absurd (omega (arith, z))) in
        let a2 = get_or_apart (satellites + j) (λ z. absurd (omega (arith, z))) (λ z. n (omega (arith, z))) (λ z. absurd (omega (arith, z))) in
        let a3 = get_or_apart (2 * satellites + j) (λ z. absurd (omega (arith, z))) (λ z. absurd (omega (arith, z))) (λ z. n (omega (arith, z))) in
        rw (s1, a1, s2, a2, a3) refl

-- ---- candidates cleared

module _ (a : Auth) (size : length a.arrivals ≡ arrivals_length) (prn : ℕ) (valid : prn_valid prn ≡ true) where
  abbrev zeros : List ℕ
  zeros = replicate (2 * satellites) 0

  zeros_size : length zeros ≡ 72
  zeros_size = length-replicate {A = ℕ} 72 0

  zeros_fit : satellites + length zeros ≤ length a.arrivals
  zeros_fit =
      let z = zeros_size in
      omega arith

  pub cleared_set : (pair_at (candidates_cleared a).sets (candidates_cleared a).arrivals prn).set ≡ (pair_at a.sets a.arrivals prn).set
  unfolding pair_at candidates_cleared
  cleared_set = refl

  pub cleared_stamp : (pair_at (candidates_cleared a).sets (candidates_cleared a).arrivals prn).stamp ≡ (pair_at a.sets a.arrivals prn).stamp
  unfolding pair_at candidates_cleared
  cleared_stamp = get_or_splice_below a.arrivals satellites zeros zeros_fit (prn - 1) (low prn valid).below

  pub cleared_latest : (pair_at (candidates_cleared a).sets (candidates_cleared a).arrivals prn).latest ≡ 0
  unfolding pair_at candidates_cleared
  cleared_latest =
      let b = (low prn valid).below in
      let z = zeros_size in
      get_or_splice_in a.arrivals satellites zeros zeros_fit (prn - 1) (omega arith) ∙ get_or-zeros 72 (prn - 1)
