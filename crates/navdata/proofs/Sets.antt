-- A field of a satellite's word in the words' region, and the five words of a satellite in it.
-- Assumes nothing.
use mathlib.Core.Path.{◌≡◌, ap, ◌∙◌}
use mathlib.Core.List.{List}
use Prim.Native.Nat.{ℕ, ◌+◌, ◌-◌, ◌*◌, ◌≤◌}
use native.Mathlib.Omega.{arith}
use lib.ListN.{length}
use Rattle.laws.specs.Lists.{part}
use Rattle.laws.proofs.Splice.{part-part}
use Rattle.rules.specs.Bits.{bits}
use Rattle.rules.specs.Navdata.{word_place, word_at, set_bytes, set_of}
use Rattle.rules.specs.Tags.{status_and_set}
use Rattle.rules.proofs.Parts.{length-packed}
use Rattle.bitfields.proofs.Fields.{bits-part}

pub bits_of_word : (words : List ℕ) (prn kind at n : ℕ) → at + n ≤ 128 → bits (word_at words prn kind) at n ≡ bits words ((prn - 1) * 640 + ((kind - 1) * 128 + at)) n
unfolding word_at word_place
bits_of_word words prn kind at n h =
    let e : 8 * (((prn - 1) * 5 + (kind - 1)) * 16) + at ≡ (prn - 1) * 640 + ((kind - 1) * 128 + at) = omega arith in
    bits-part words (((prn - 1) * 5 + (kind - 1)) * 16) 16 at n h ∙ ap (λ (x : ℕ). bits words x n) e

-- a word among the five
word_of_five : (words : List ℕ) (prn kind : ℕ) → (prn - 1) * 80 + 80 ≤ length words → 1 ≤ kind → kind ≤ 5
    → part (part words ((prn - 1) * 80) 80) ((kind - 1) * 16) 16 ≡ word_at words prn kind
unfolding word_at word_place
word_of_five words prn kind h i j =
    part-part words ((prn - 1) * 80) 80 ((kind - 1) * 16) 16 h (omega arith) ∙ ap (λ (x : ℕ). part words x 16) (omega arith)

-- the set of a satellite's words is that of the five
pub set_of_five : (words : List ℕ) (prn : ℕ) → (prn - 1) * 80 + 80 ≤ length words
    → (let w : List ℕ = part words ((prn - 1) * 80) 80 in set_bytes (part w 0 16) (part w 16 16) (part w 32 16) (part w 48 16) (part w 64 16)) ≡ set_of words prn
unfolding set_of
set_of_five words prn h =
    rw (
      word_of_five words prn 1 h (omega arith) (omega arith),
      word_of_five words prn 2 h (omega arith) (omega arith),
      word_of_five words prn 3 h (omega arith) (omega arith),
      word_of_five words prn 4 h (omega arith) (omega arith),
      word_of_five words prn 5 h (omega arith) (omega arith),
    )

-- ---- the status and the set

pub length_status_and-set : (status : ℕ) (navdata : List ℕ) → length (status_and_set status navdata) ≡ 69
unfolding status_and_set
length_status_and-set status navdata = length-packed _ 69
