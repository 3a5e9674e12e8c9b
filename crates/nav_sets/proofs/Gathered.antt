-- A set in the pieces that the program writes: four of sixteen bytes, each of one word and the front of the next, and five bytes of word 5.
-- Assumes nothing.
use mathlib.Core.Path.{◌≡◌, sym, ap, ◌∙◌}
use mathlib.Core.List.{List, ◌++◌, append_assoc}
use Prim.Native.Nat.{ℕ, ◌+◌, ◌-◌, ◌*◌, ◌/◌, ◌^◌, ◌≤◌}
use native.Mathlib.Omega.{arith}
use lib.ListN.{length, length-append}
use lib.Pow.{high}
use Rattle.laws.specs.Lists.{part, splice}
use Rattle.laws.specs.Bytes.{be8}
use Rattle.laws.proofs.Numbers.{length-be4, length-be8}
use Rattle.laws.proofs.Splice.{splice-after}
use Rattle.rules.specs.Bits.{bits, bit_list, packed}
use Rattle.rules.specs.Navdata.{set_bits, set_bytes}
use Rattle.rules.proofs.Bounds.{bits_lt}
use Rattle.bitfields.proofs.Fields.{bits_split}
use Rattle.bitfields.proofs.Packing.{bit_list_split, bit_list-part}
use Rattle.nav_sets.specs.Pieces.{pair_of, piece_of, five_of}
use Rattle.nav_sets.proofs.Eights.{packed_whole, packed_pair, last_37}

-- 64 bits of one string, in two numbers that were read
pub pair_inside : (s : List ℕ) (b from : ℕ) → from ≤ 64 → pair_of s (b + from) (64 - from) s (b + 64) ≡ bits s (b + from) 64
unfolding pair_of
pair_inside s b from h =
    let e : 64 - (64 - from) ≡ from = omega arith in
    let w : 64 ≡ 64 - from + from = omega arith in
    let p : b + 64 ≡ b + from + (64 - from) = omega arith in
    rw (e, p) (sym (ap (bits s (b + from)) w ∙ bits_split s (b + from) (64 - from) from))

-- the bits that a shift to the right leaves
pub bits_front : (s : List ℕ) (at n m : ℕ) → bits s at (n + m) / 2 ^ m ≡ bits s at n
bits_front s at n m = rw (bits_split s at n m) (high (bits s at n) m (bits_lt s (at + n) m))

-- sixteen bytes in front
packed_piece : (w : List ℕ) (b from n : ℕ) (rest : List ℕ) (m : ℕ) → n ≤ 64
    → packed (bit_list w (b + from) 64 ++ (bit_list w (b + (64 + from)) n ++ (bit_list w (b + 134) (64 - n) ++ rest))) (m + 16) ≡ piece_of w b from n ++ packed rest m
unfolding piece_of
packed_piece w b from n rest m h =
    let e : m + 16 ≡ m + 8 + 8 = omega arith in
    rw (e, packed_whole w (b + from) (bit_list w (b + (64 + from)) n ++ (bit_list w (b + 134) (64 - n) ++ rest)) (m + 8), packed_pair w (b + (64 + from)) n w (b + 134) rest m h, append_assoc)

-- a word's bits: those that the piece before takes, 64, and those that the next word's first bits follow
word_split : (w : List ℕ) (at a n : ℕ) (rest : List ℕ) → bit_list w at (a + (64 + n)) ++ rest ≡ bit_list w at a ++ (bit_list w (at + a) 64 ++ (bit_list w (at + a + 64) n ++ rest))
word_split w at a n rest =
    rw (bit_list_split w at a (64 + n), bit_list_split w (at + a) 64 n, append_assoc, append_assoc)

-- the set of five words that stand one after the other
set_is : (w : List ℕ)
    → set_bytes (part w 0 16) (part w 16 16) (part w 32 16) (part w 48 16) (part w 64 16)
    ≡ piece_of w 0 6 56 ++ (piece_of w 128 14 48 ++ (piece_of w 256 22 42 ++ (piece_of w 384 28 34 ++ five_of (bits w 548 37 * 8))))
unfolding set_bytes set_bits
set_is w =
    let five : List ℕ = bit_list w 548 37 in
    let four : List ℕ = bit_list w 390 22 ++ (bit_list w 412 64 ++ (bit_list w 476 34 ++ (bit_list w 518 30 ++ five))) in
    let three : List ℕ = bit_list w 262 16 ++ (bit_list w 278 64 ++ (bit_list w 342 42 ++ four)) in
    rw (
      bit_list-part w 0 16 6 120 (omega arith),
      bit_list-part w 16 16 6 120 (omega arith),
      bit_list-part w 32 16 6 122 (omega arith),
      bit_list-part w 48 16 6 120 (omega arith),
      bit_list-part w 64 16 6 67 (omega arith),
      bit_list_split w 518 30 37,
      word_split w 390 22 34 (bit_list w 518 30 ++ five),
      word_split w 262 16 42 four,
      word_split w 134 8 48 three,
      bit_list_split w 6 64 56,
      append_assoc (bit_list w 6 64) (bit_list w 70 56) (bit_list w 134 8 ++ (bit_list w 142 64 ++ (bit_list w 206 48 ++ three))),
      packed_piece w 0 6 56 (bit_list w 142 64 ++ (bit_list w 206 48 ++ three)) 53 (omega arith),
      packed_piece w 128 14 48 (bit_list w 278 64 ++ (bit_list w 342 42 ++ four)) 37 (omega arith),
      packed_piece w 256 22 42 (bit_list w 412 64 ++ (bit_list w 476 34 ++ (bit_list w 518 30 ++ five))) 21 (omega arith),
      packed_piece w 384 28 34 five 5 (omega arith),
      last_37 w 548,
    )

-- ---- what the stores leave, piece after piece

length_piece : (w : List ℕ) (b from n : ℕ) → length (piece_of w b from n) ≡ 16
unfolding piece_of
length_piece w b from n = simp (length-append, length-be8)

pub length-five : (x : ℕ) → length (five_of x) ≡ 5
unfolding five_of
length-five x = simp (length-be4)

-- two pieces, one right after the other
joined : (d : List ℕ) (to : ℕ) (x y : List ℕ) (a b : ℕ) → length x ≡ a → length y ≡ b → to + (a + b) ≤ length d
    → splice (splice d to x) (to + a) y ≡ splice d to (x ++ y)
joined d to x y a b p q h = splice-after d to (to + a) x y (omega arith) (omega arith)

pub piece_spliced : (d : List ℕ) (to : ℕ) (w : List ℕ) (b from n : ℕ) → to + 16 ≤ length d
    → splice (splice d to (be8 (bits w (b + from) 64))) (to + 8) (be8 (pair_of w (b + (64 + from)) n w (b + 134))) ≡ splice d to (piece_of w b from n)
unfolding piece_of
piece_spliced d to w b from n h = joined d to _ _ 8 8 (length-be8 _) (length-be8 _) h

pub set_spliced : (d : List ℕ) (to : ℕ) (w : List ℕ) → to + 69 ≤ length d
    → splice (splice (splice (splice (splice d to (piece_of w 0 6 56)) (to + 16) (piece_of w 128 14 48)) (to + 32) (piece_of w 256 22 42)) (to + 48) (piece_of w 384 28 34)) (to + 64)
    (five_of (bits w 548 37 * 8))
    ≡ splice d to (set_bytes (part w 0 16) (part w 16 16) (part w 32 16) (part w 48 16) (part w 64 16))
set_spliced d to w h =
    let one : List ℕ = piece_of w 0 6 56 in
    let two : List ℕ = piece_of w 128 14 48 in
    let three : List ℕ = piece_of w 256 22 42 in
    let four : List ℕ = piece_of w 384 28 34 in
    let five : List ℕ = five_of (bits w 548 37 * 8) in
    let n1 : length one ≡ 16 = length_piece w 0 6 56 in
    let n2 : length (one ++ two) ≡ 32 = simp (length-append, length_piece) in
    let n3 : length ((one ++ two) ++ three) ≡ 48 = simp (length-append, length_piece) in
    let n4 : length (((one ++ two) ++ three) ++ four) ≡ 64 = simp (length-append, length_piece) in
    rw (
      joined d to one two 16 16 n1 (length_piece w 128 14 48) (omega arith),
      joined d to (one ++ two) three 32 16 n2 (length_piece w 256 22 42) (omega arith),
      joined d to ((one ++ two) ++ three) four 48 16 n3 (length_piece w 384 28 34) (omega arith),
      joined d to (((one ++ two) ++ three) ++ four) five 64 5 n4 (length-five (bits w 548 37 * 8)) (omega arith),
      set_is w,
    )
    (simp append_assoc)
