-- Laws of byte strings: zeros, parts, lengths of what is read by bits, zeros after a short one, and what stands beside a splice. Assumes nothing.
use Prim.Native.Nat.{ℕ, zero, suc, ◌+◌, ◌-◌, ◌≤◌, ◌<◌}
use mathlib.Core.Path.{◌≡◌, refl, sym, ◌∙◌}
use mathlib.Core.Logic.{◌⊎◌, ⊎_elim}
use mathlib.Core.List.{List}
use native.Mathlib.Omega.{arith}
use lib.ListN.{length, get_or, take, replicate, length-append, length-replicate, length-take}
use lib.Seq.{ext_get_or, take_at, take_all}
use Rattle.laws.specs.Lists.{part, splice}
use Rattle.laws.proofs.Splice.{get_or_splice_below, get_or_splice_past, part_splice_below, part_splice_past, length_part, get_d_part}
use Rattle.rules.specs.Bits.{bytes_at, packed, filled}
use Rattle.rules.specs.Navdata.{set_of, set_bytes}

-- ---- zeros

pub get_or-zeros : (n i : ℕ) → ◌≡◌ {A = ℕ} (get_or (replicate n 0) i 0) 0
get_or-zeros zero i = refl
get_or-zeros (suc n) zero = refl
get_or-zeros (suc n) (suc i) = get_or-zeros n i

pub part-zeros : (n a m : ℕ) → a + m ≤ n → part (replicate n 0) a m ≡ replicate m 0
part-zeros n a m h =
    let e : length (part (replicate n 0) a m) ≡ m = length_part (replicate n 0) a m (omega (arith, length-replicate {A = ℕ} n 0)) in
    ext_get_or 0 _ _ (e ∙ sym (length-replicate {A = ℕ} m 0))
    (λ i k. get_d_part (replicate n 0) a m i (omega arith) ∙ get_or-zeros n (a + i) ∙ sym (get_or-zeros m i))

-- ---- parts

pub length-part_most : (l : List ℕ) (a n : ℕ) → length (part l a n) ≤ n
unfolding part
length-part_most l a n = simp length-take (omega arith)

pub part_whole : (l : List ℕ) (n : ℕ) → length l ≡ n → part l 0 n ≡ l
unfolding part
part_whole l n h = take_all n l (omega arith)

-- ---- bytes at any bit, packed bits, a set

pub length-bytes_at : (s : List ℕ) (at n : ℕ) → length (bytes_at s at n) ≡ n
unfolding bytes_at
length-bytes_at s at zero = refl
length-bytes_at s at (suc n) = rw (length-append, length-bytes_at s at n) (omega arith)

pub length-packed : (l : List ℕ) (n : ℕ) → length (packed l n) ≡ n
unfolding packed
length-packed l zero = refl
length-packed l (suc n) = rw (length-append, length-packed l n) (omega arith)

pub length-set_of : (words : List ℕ) (prn : ℕ) → length (set_of words prn) ≡ 69
unfolding set_of set_bytes
length-set_of words prn = length-packed _ 69

-- ---- "short ones followed by zeros"

pub length-filled : (n : ℕ) (l : List ℕ) → length l ≤ n → length (filled n l) ≡ n
unfolding filled
length-filled n l h = simp (length-append, length-replicate) (omega arith)

-- what was filled reads back
pub filled_back : (n w : ℕ) (k : List ℕ) → length k ≡ w → take w (filled n k) ≡ k
unfolding filled
filled_back n w k h = take_at k (replicate (n - length k) 0) w h

-- ---- beside the place of a splice: below it or past it

module _ (d : List ℕ) (a : ℕ) (s : List ℕ) (fits : a + length s ≤ length d) where
  pub get_d_beside : (i : ℕ) → (i < a) ⊎ (a + length s ≤ i) → get_or (splice d a s) i 0 ≡ get_or d i 0
  get_d_beside i w = ⊎_elim (λ h. get_or_splice_below d a s fits i h) (λ h. get_or_splice_past d a s fits i h) w

  pub part_beside : (b n : ℕ) → b + n ≤ length d → (b + n ≤ a) ⊎ (a + length s ≤ b) → part (splice d a s) b n ≡ part d b n
  part_beside b n r w = ⊎_elim (λ h. part_splice_below d a s fits b n h) (λ h. part_splice_past d a s fits b n h r) w
