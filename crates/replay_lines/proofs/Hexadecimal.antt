-- Hexadecimal digits of a part of a list, one byte more at a time; the lines of tag records, and all lines of a record. Assumes nothing.
use mathlib.Core.Path.{◌≡◌, refl, sym, ◌∙◌}
use mathlib.Core.List.{List, [], ◌∷◌, ◌++◌}
use Prim.Native.Nat.{ℕ, zero, suc, ◌+◌, ◌*◌, ◌/◌, ◌%◌, ◌≤◌, ◌<◌}
use native.Mathlib.Omega.{arith}
use native.Mathlib.Numerals.{add-one}
use native.Mathlib.Nat.{zero-add}
use lib.ListN.{length, drop, get_or, set, length-append, length-drop}
use lib.Seq.{take-suc, get_or-drop}
use Rattle.laws.specs.Lists.{part, splice}
use Rattle.laws.proofs.Splice.{length_part, length_splice, splice_nil, splice_one}
use Rattle.replay_lines.proofs.Joined.{joined}
use Rattle.rules.specs.Replay.{digit, hexadecimal, record_line, record_lines, answer_line, lines_of, line_feed}

hexadecimal-append : (xs ys : List ℕ) → hexadecimal (xs ++ ys) ≡ hexadecimal xs ++ hexadecimal ys
unfolding hexadecimal
hexadecimal-append [] ys = refl
hexadecimal-append (x ∷ xs) ys = rw (hexadecimal-append xs ys)

length-hexadecimal : (xs : List ℕ) → length (hexadecimal xs) ≡ length xs * 2
unfolding hexadecimal
length-hexadecimal [] = refl
length-hexadecimal (x ∷ xs) = omega (arith, length-hexadecimal xs)

part_more : (l : List ℕ) (a i : ℕ) → a + i < length l → part l a (suc i) ≡ part l a i ++ (get_or l (a + i) 0 ∷ [])
unfolding part
part_more l a i h = rw (take-suc (drop a l) i 0 (simp length-drop (omega arith)), get_or-drop a l i 0)

-- the two digits of a byte
abbrev pub pair : ℕ → List ℕ
pair b = digit (b / 16) ∷ digit (b % 16) ∷ []

-- a loop over the bytes of a part: none yet, one more
pub none_yet : (d l : List ℕ) (at a : ℕ) → d ≡ splice d at (hexadecimal (part l a 0))
unfolding hexadecimal part
none_yet d l at a = sym (splice_nil d at)

module _ (d l : List ℕ) (at a : ℕ) where
  pub length_digits : (i : ℕ) → a + i ≤ length l → length (hexadecimal (part l a i)) ≡ i * 2
  length_digits i h = rw (length-hexadecimal, length_part l a i h)

  pub one_byte_more : (i : ℕ) → a + i < length l → at + (i * 2 + 2) ≤ length d
      → splice (splice d at (hexadecimal (part l a i))) (at + i * 2) (pair (get_or l (a + i) 0)) ≡ splice d at (hexadecimal (part l a (i + 1)))
  unfolding hexadecimal
  one_byte_more i h room =
      let e = length_digits i (omega arith) in
      rw (add-one, part_more l a i h, hexadecimal-append)
      (joined d at (at + i * 2) (hexadecimal (part l a i)) (pair (get_or l (a + i) 0)) (omega arith) (omega arith))

-- the digits of twelve bytes, and the line feed behind them
pub line_ended : (d out area : List ℕ) (at k i : ℕ) → i ≡ 12 → out ≡ splice d at (hexadecimal (part area (k * 12) i)) → at + 25 ≤ length d
    → k * 12 + 12 ≤ length area → set out (at + 24) line_feed ≡ splice d at (record_line area k)
unfolding record_line
line_ended d out area at k i z e room h =
    let w : out ≡ splice d at (hexadecimal (part area (k * 12) 12)) = rw z at e in
    let n = length_digits d area at (k * 12) 12 h in
    let m : length out ≡ length d = rw w (length_splice d at (hexadecimal (part area (k * 12) 12)) (omega arith)) in
    splice_one out (at + 24) line_feed (omega arith)
    ∙ rw w (joined d at (at + 24) (hexadecimal (part area (k * 12) 12)) (line_feed ∷ []) (omega arith) (rw n (omega arith)))

pub length_record_line : (area : List ℕ) (k : ℕ) → k * 12 + 12 ≤ length area → length (record_line area k) ≡ 25
unfolding record_line
length_record_line area k h = rw (length-append, length-hexadecimal, length_part area (k * 12) 12 h)

pub length_record_lines : (area : List ℕ) (n : ℕ) → n * 12 ≤ length area → length (record_lines area n) ≡ n * 25
unfolding record_lines
length_record_lines area zero h = refl
length_record_lines area (suc n) h =
    rw (length-append, length_record_lines area n (omega arith), length_record_line area n (omega arith)) (omega arith)

-- a loop over the tag records: none yet, one more
pub no_lines : (d area : List ℕ) (at : ℕ) → d ≡ splice d at (record_lines area 0)
unfolding record_lines
no_lines d area at = sym (splice_nil d at)

pub one_line_more : (d area : List ℕ) (at k : ℕ) → at + (k * 25 + 25) ≤ length d → k * 12 + 12 ≤ length area
    → splice (splice d at (record_lines area k)) (at + k * 25) (record_line area k) ≡ splice d at (record_lines area (k + 1))
unfolding record_lines
one_line_more d area at k room h =
    let n = length_record_lines area k (omega arith) in
    let m = length_record_line area k h in
    rw add-one (joined d at (at + k * 25) (record_lines area k) (record_line area k) (omega arith) (omega arith))

-- the first line, and the tag records' behind it
module _ (d w v area : List ℕ) (place first second count at n r : ℕ) where
  pub lines_put : (w ≡ splice d 0 (answer_line place first second count)) × ((at ≡ length (answer_line place first second count)) × (at ≤ 84))
      → (v ≡ splice w at (record_lines area n)) × (r ≡ at + length (record_lines area n)) → n ≡ count → 84 + count * 25 ≤ length d → count * 12 ≤ length area
      → (v ≡ splice d 0 (lines_of place first second count area)) × ((r ≡ length (lines_of place first second count area)) × (r ≤ 84 + count * 25))
  unfolding lines_of
  lines_put p q e room h =
      let k = length_record_lines area count h in
      let x = p.1.0 in
      let y = p.1.1 in
      let z : v ≡ splice w at (record_lines area count) = rw e at q.0 in
      let u : r ≡ at + length (record_lines area count) = rw e at q.1 in
      (z ∙ rw p.0 (joined d 0 at (answer_line place first second count) (record_lines area count) (rw zero-add x) (omega arith)), (u ∙ simp length-append (omega arith), omega arith))
