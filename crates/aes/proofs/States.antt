-- A round by columns: each step's bytes are the definition's.
-- Assumes nothing.
use mathlib.Core.Path.{◌≡◌, refl, sym, ap, ap₂, ◌∙◌}
use mathlib.Core.List.{List, [], ◌∷◌, ◌++◌}
use Prim.Native.Nat.{ℕ, zero, suc, ◌+◌, ◌-◌, ◌*◌, ◌/◌, ◌%◌, ◌^◌, ◌≤◌, ◌<◌}
use native.Mathlib.Nat.{zero-mul, one-mul, add_assoc}
use native.Mathlib.Omega.{arith}
use Rattle.std.specs.Int.{rotate_left, w32}
use lib.Bits.{bit_and, bit_xor, or_shifted, and_le_r, and_mask, and_mod, and_shr, xor_comm, xor_mod, xor_shr, xor_zero_l, xor_zero_r}
use lib.ListN.{length, get_or, take, drop, replicate}
use lib.Seq.{take-add, take_all, drop-drop}
use Rattle.laws.specs.Lists.{part, splice}
use Rattle.laws.specs.Bytes.{be4, u32at}
use Rattle.laws.proofs.Bits.{xor_assoc}
use Rattle.laws.proofs.Elements.{written_out}
use Rattle.laws.proofs.Splice.{length_part, get_d_part}
use Rattle.laws.proofs.Numbers.{u32at-be4}
use Rattle.aes.specs.Aes as S
use Rattle.aes.specs.Steps as C

pub four_equal : {a b c d a' b' c' d' : ℕ} → a ≡ a' → b ≡ b' → c ≡ c' → d ≡ d' → a ∷ b ∷ c ∷ d ∷ [] ≡ a' ∷ b' ∷ c' ∷ d' ∷ []
four_equal p q r s = cc

-- ---- a column's bytes

pub joined_is : (x a b c d : ℕ) → a < 256 → b < 256 → c < 256 → d < 256 → x ≡ a * 16777216 + b * 65536 + c * 256 + d → be4 x ≡ a ∷ b ∷ c ∷ d ∷ []
unfolding be4
joined_is x a b c d ha hb hc hd e = four_equal (omega arith) (omega arith) (omega arith) (omega arith)

-- the four bytes at a place of a list of bytes
pub part_four : (w : List ℕ) (a : ℕ) → a + 4 ≤ length w → part w a 4 ≡ get_or w a 0 ∷ get_or w (a + 1) 0 ∷ get_or w (a + 2) 0 ∷ get_or w (a + 3) 0 ∷ []
part_four w a h =
    let e : a + 0 ≡ a = omega arith in
    written_out 4 (part w a 4) (length_part w a 4 h)
    ∙ four_equal (get_d_part w a 4 0 (omega arith) ∙ ap (λ (i : ℕ). get_or w i 0) e) (get_d_part w a 4 1 (omega arith)) (get_d_part w a 4 2 (omega arith)) (get_d_part w a 4 3 (omega arith))

pub word_is : (w : List ℕ) (a : ℕ) → a + 4 ≤ length w → ((i : ℕ) → get_or w i 0 < 256) → be4 (u32at w a) ≡ part w a 4
unfolding u32at
word_is w a h byte = joined_is _ _ _ _ _ (byte a) (byte (a + 1)) (byte (a + 2)) (byte (a + 3)) refl ∙ sym (part_four w a h)

-- the bytes of an exclusive or, and of an `and`
xor_byte : (a b k : ℕ) → bit_xor a b / 2 ^ k % 256 ≡ bit_xor (a / 2 ^ k % 256) (b / 2 ^ k % 256)
xor_byte a b k = ap (λ (t : ℕ). t % 256) (xor_shr a b k) ∙ xor_mod (a / 2 ^ k) (b / 2 ^ k) 8

and_byte : (a b k : ℕ) → bit_and a b / 2 ^ k % 256 ≡ bit_and (a / 2 ^ k % 256) (b / 2 ^ k % 256)
and_byte a b k = ap (λ (t : ℕ). t % 256) (and_shr a b k) ∙ and_mod (a / 2 ^ k) (b / 2 ^ k) 8

pub xor_be4 : (a b : ℕ) → be4 (bit_xor a b) ≡ S.xored (be4 a) (be4 b)
unfolding be4 S.xored
xor_be4 a b = four_equal (xor_byte a b 24) (xor_byte a b 16) (xor_byte a b 8) (xor_mod a b 8)

split : (x : ℕ) → x < 2 ^ 32 → x ≡ x / 256 ^ 3 % 256 * 256 ^ 3 + x / 256 ^ 2 % 256 * 256 ^ 2 + x / 256 % 256 * 256 + x % 256
unfolding u32at be4
split x h = sym (u32at-be4 x h)

-- a column whose bytes move up by one, two and three places; those that go out come in below
turned_sum : (x a b c d : ℕ) → a < 256 → b < 256 → c < 256 → d < 256 → x ≡ a * 16777216 + b * 65536 + c * 256 + d
    → (be4 (x % 2 ^ 24 * 2 ^ 8 + x / 2 ^ 24) ≡ b ∷ c ∷ d ∷ a ∷ []) × ((be4 (x % 2 ^ 16 * 2 ^ 16 + x / 2 ^ 16) ≡ c ∷ d ∷ a ∷ b ∷ []) × (be4 (x % 2 ^ 8 * 2 ^ 24 + x / 2 ^ 8) ≡ d ∷ a ∷ b ∷ c ∷ []))
turned_sum x a b c d ha hb hc hd e = (
  joined_is (x % 2 ^ 24 * 2 ^ 8 + x / 2 ^ 24) b c d a hb hc hd ha (omega arith),
  (
    joined_is (x % 2 ^ 16 * 2 ^ 16 + x / 2 ^ 16) c d a b hc hd ha hb (omega arith),
    joined_is (x % 2 ^ 8 * 2 ^ 24 + x / 2 ^ 8) d a b c hd ha hb hc (omega arith),
  ),
)

module _ (x : ℕ) (h : x < 2 ^ 32) where
  sums : (be4 (x % 2 ^ 24 * 2 ^ 8 + x / 2 ^ 24) ≡ S.rot_word (be4 x))
      × ((be4 (x % 2 ^ 16 * 2 ^ 16 + x / 2 ^ 16) ≡ S.rot_word (S.rot_word (be4 x))) × (be4 (x % 2 ^ 8 * 2 ^ 24 + x / 2 ^ 8) ≡ S.rot_word (S.rot_word (S.rot_word (be4 x)))))
  unfolding be4 S.rot_word
  sums =
      turned_sum x (x / 256 ^ 3 % 256) (x / 256 ^ 2 % 256) (x / 256 % 256) (x % 256) (omega arith) (omega arith) (omega arith) (omega arith) (split x h)

  pub turned : be4 (rotate_left w32 x 8) ≡ S.rot_word (be4 x)
  turned =
      let m : x * 2 ^ 8 % 2 ^ 32 ≡ x % 2 ^ 24 * 2 ^ 8 = omega arith in
      ap be4 (rw m (or_shifted (x % 2 ^ 24) 8 (x / 2 ^ 24) (omega arith))) ∙ sums.0

  pub turned_twice : be4 (rotate_left w32 x 16) ≡ S.rot_word (S.rot_word (be4 x))
  turned_twice =
      let m : x * 2 ^ 16 % 2 ^ 32 ≡ x % 2 ^ 16 * 2 ^ 16 = omega arith in
      ap be4 (rw m (or_shifted (x % 2 ^ 16) 16 (x / 2 ^ 16) (omega arith))) ∙ sums.1.0

  pub turned_thrice : be4 (rotate_left w32 x 24) ≡ S.rot_word (S.rot_word (S.rot_word (be4 x)))
  turned_thrice =
      let m : x * 2 ^ 24 % 2 ^ 32 ≡ x % 2 ^ 8 * 2 ^ 24 = omega arith in
      ap be4 (rw m (or_shifted (x % 2 ^ 8) 24 (x / 2 ^ 8) (omega arith))) ∙ sums.1.1

twice : (y a b c d : ℕ) → y ≡ a % 128 * 256 ^ 3 + b % 128 * 256 ^ 2 + c % 128 * 256 + d % 128 → be4 (y * 2) ≡ a % 128 * 2 ∷ b % 128 * 2 ∷ c % 128 * 2 ∷ d % 128 * 2 ∷ []
twice y a b c d e = joined_is (y * 2) (a % 128 * 2) (b % 128 * 2) (c % 128 * 2) (d % 128 * 2) (omega arith) (omega arith) (omega arith) (omega arith) (omega arith)

times27 : (y a b c d : ℕ) → a < 256 → b < 256 → c < 256 → d < 256 → y ≡ a / 128 * 256 ^ 3 + b / 128 * 256 ^ 2 + c / 128 * 256 + d / 128
    → be4 (y * 27) ≡ a / 128 * 27 ∷ b / 128 * 27 ∷ c / 128 * 27 ∷ d / 128 * 27 ∷ []
times27 y a b c d ha hb hc hd e = joined_is (y * 27) (a / 128 * 27) (b / 128 * 27) (c / 128 * 27) (d / 128 * 27) (omega arith) (omega arith) (omega arith) (omega arith) (omega arith)

both_bits : (x : ℕ)
    → S.xored (x / 256 ^ 3 % 256 % 128 * 2 ∷ x / 256 ^ 2 % 256 % 128 * 2 ∷ x / 256 % 256 % 128 * 2 ∷ x % 256 % 128 * 2 ∷ [])
    (x / 256 ^ 3 % 256 / 128 * 27 ∷ x / 256 ^ 2 % 256 / 128 * 27 ∷ x / 256 % 256 / 128 * 27 ∷ x % 256 / 128 * 27 ∷ []) ≡ C.doubled (be4 x)
unfolding S.xored C.doubled S.xtime be4
both_bits x = refl

-- the bytes without their top bits, and the top bits, each times a number
low_bits : (x : ℕ) → be4 (bit_and x 0x7f7f7f7f * 2) ≡ x / 256 ^ 3 % 256 % 128 * 2 ∷ x / 256 ^ 2 % 256 % 128 * 2 ∷ x / 256 % 256 % 128 * 2 ∷ x % 256 % 128 * 2 ∷ []
low_bits x =
    let y = bit_and x 0x7f7f7f7f in
    let s = split y (omega (arith, and_le_r x 0x7f7f7f7f)) in
    let e3 : y / 256 ^ 3 % 256 ≡ x / 256 ^ 3 % 256 % 128 = and_byte x 0x7f7f7f7f 24 ∙ and_mask (x / 256 ^ 3 % 256) 7 in
    let e2 : y / 256 ^ 2 % 256 ≡ x / 256 ^ 2 % 256 % 128 = and_byte x 0x7f7f7f7f 16 ∙ and_mask (x / 256 ^ 2 % 256) 7 in
    let e1 : y / 256 % 256 ≡ x / 256 % 256 % 128 = and_byte x 0x7f7f7f7f 8 ∙ and_mask (x / 256 % 256) 7 in
    let e0 : y % 256 ≡ x % 256 % 128 = and_mod x 0x7f7f7f7f 8 ∙ and_mask (x % 256) 7 in
    twice y (x / 256 ^ 3 % 256) (x / 256 ^ 2 % 256) (x / 256 % 256) (x % 256) (s ∙ rw (e3, e2, e1, e0))

top_bits : (x : ℕ) → x < 2 ^ 32
    → be4 (bit_and (x / 128) 0x01010101 * 27) ≡ x / 256 ^ 3 % 256 / 128 * 27 ∷ x / 256 ^ 2 % 256 / 128 * 27 ∷ x / 256 % 256 / 128 * 27 ∷ x % 256 / 128 * 27 ∷ []
top_bits x h =
    let y = bit_and (x / 128) 0x01010101 in
    let s = split y (omega (arith, and_le_r (x / 128) 0x01010101)) in
    let t3 : x / 128 / 256 ^ 3 % 256 % 2 ≡ x / 256 ^ 3 % 256 / 128 = omega arith in
    let t2 : x / 128 / 256 ^ 2 % 256 % 2 ≡ x / 256 ^ 2 % 256 / 128 = omega arith in
    let t1 : x / 128 / 256 % 256 % 2 ≡ x / 256 % 256 / 128 = omega arith in
    let t0 : x / 128 % 256 % 2 ≡ x % 256 / 128 = omega arith in
    let e3 : y / 256 ^ 3 % 256 ≡ x / 256 ^ 3 % 256 / 128 = and_byte (x / 128) 0x01010101 24 ∙ and_mask (x / 128 / 256 ^ 3 % 256) 1 ∙ t3 in
    let e2 : y / 256 ^ 2 % 256 ≡ x / 256 ^ 2 % 256 / 128 = and_byte (x / 128) 0x01010101 16 ∙ and_mask (x / 128 / 256 ^ 2 % 256) 1 ∙ t2 in
    let e1 : y / 256 % 256 ≡ x / 256 % 256 / 128 = and_byte (x / 128) 0x01010101 8 ∙ and_mask (x / 128 / 256 % 256) 1 ∙ t1 in
    let e0 : y % 256 ≡ x % 256 / 128 = and_mod (x / 128) 0x01010101 8 ∙ and_mask (x / 128 % 256) 1 ∙ t0 in
    times27 y (x / 256 ^ 3 % 256) (x / 256 ^ 2 % 256) (x / 256 % 256) (x % 256) (omega arith) (omega arith) (omega arith) (omega arith) (s ∙ rw (e3, e2, e1, e0))

pub doubled_is : (x : ℕ) → x < 2 ^ 32 → be4 (bit_xor (bit_and x 0x7f7f7f7f * 2 % 2 ^ 32) (bit_and (x / 128) 0x01010101 * 27)) ≡ C.doubled (be4 x)
doubled_is x h =
    let m : bit_and x 0x7f7f7f7f * 2 % 2 ^ 32 ≡ bit_and x 0x7f7f7f7f * 2 = omega (arith, and_le_r x 0x7f7f7f7f) in
    rw m
    (xor_be4 (bit_and x 0x7f7f7f7f * 2) (bit_and (x / 128) 0x01010101 * 27) ∙ ap₂ S.xored (low_bits x) (top_bits x h) ∙ both_bits x)

-- ---- MixColumns

two : (b : ℕ) → S.times 2 b ≡ S.xtime b
unfolding S.times S.times_bits
two b = simp (zero-mul, one-mul, xor_zero_l, xor_zero_r)

three : (b : ℕ) → S.times 3 b ≡ bit_xor b (S.xtime b)
unfolding S.times S.times_bits
three b = simp (zero-mul, one-mul, xor_zero_l, xor_zero_r)

-- the first of four summands, moved to the end
turn : (w x y z : ℕ) → bit_xor (bit_xor (bit_xor x y) z) w ≡ bit_xor (bit_xor (bit_xor w x) y) z
turn w x y z =
    xor_comm (bit_xor (bit_xor x y) z) w ∙ sym (xor_assoc w (bit_xor x y) z)
    ∙ ap (λ (t : ℕ). bit_xor t z) (sym (xor_assoc w x y))

-- a byte of a column, from it and the three below it
abbrev row : ℕ → ℕ → ℕ → ℕ → ℕ
row a b c d = bit_xor (bit_xor (bit_xor (S.xtime a) (bit_xor b (S.xtime b))) c) d

column : (a b c d : ℕ) → S.mix_column a b c d ≡ row a b c d ∷ row b c d a ∷ row c d a b ∷ row d a b c ∷ []
unfolding S.mix_column
column a b c d =
    let a2 = two a in
    let b2 = two b in
    let c2 = two c in
    let d2 = two d in
    let a3 = three a in
    let b3 = three b in
    let c3 = three c in
    let d3 = three d in
    four_equal (cc)
    (ap₂ (λ (x y : ℕ). bit_xor (bit_xor (bit_xor a x) y) d) b2 c3 ∙ sym (turn a (S.xtime b) (bit_xor c (S.xtime c)) d))
    (ap₂ (λ (x y : ℕ). bit_xor (bit_xor (bit_xor a b) x) y) c2 d3 ∙ sym (turn a b (S.xtime c) (bit_xor d (S.xtime d)))
    ∙ sym (turn b (S.xtime c) (bit_xor d (S.xtime d)) a))
    (ap₂ (λ (x y : ℕ). bit_xor (bit_xor (bit_xor x b) c) y) a3 d2 ∙ sym (turn (bit_xor a (S.xtime a)) b c (S.xtime d)) ∙ sym (turn b c (S.xtime d) (bit_xor a (S.xtime a)))
    ∙ sym (turn c (S.xtime d) (bit_xor a (S.xtime a)) b))

mix_out : (a b c d : ℕ) → S.xored (S.xored (S.xored (C.doubled (a ∷ b ∷ c ∷ d ∷ [])) (S.rot_word (S.xored (a ∷ b ∷ c ∷ d ∷ []) (C.doubled (a ∷ b ∷ c ∷ d ∷ [])))))
    (S.rot_word (S.rot_word (a ∷ b ∷ c ∷ d ∷ [])))) (S.rot_word (S.rot_word (S.rot_word (a ∷ b ∷ c ∷ d ∷ []))))
    ≡ row a b c d ∷ row b c d a ∷ row c d a b ∷ row d a b c ∷ []
unfolding S.xored C.doubled S.rot_word
mix_out a b c d = refl

mixed_is : (x : ℕ) → S.xored (S.xored (S.xored (C.doubled (be4 x)) (S.rot_word (S.xored (be4 x) (C.doubled (be4 x))))) (S.rot_word (S.rot_word (be4 x)))) (S.rot_word (S.rot_word (S.rot_word (be4 x))))
    ≡ C.mixed (be4 x)
unfolding be4 C.mixed
mixed_is x = mix_out _ _ _ _ ∙ sym (column _ _ _ _)

pub mix_is : (x y b c d : ℕ) → be4 y ≡ C.doubled (be4 x) → be4 b ≡ S.rot_word (be4 (bit_xor x y)) → be4 c ≡ S.rot_word (S.rot_word (be4 x)) → be4 d ≡ S.rot_word (S.rot_word (S.rot_word (be4 x)))
    → be4 (bit_xor (bit_xor (bit_xor y b) c) d) ≡ C.mixed (be4 x)
mix_is x y b c d p1 p2 p3 p4 =
    xor_be4 (bit_xor (bit_xor y b) c) d
    ∙ ap (λ (t : List ℕ). S.xored t (be4 d)) (xor_be4 (bit_xor y b) c ∙ ap (λ (t : List ℕ). S.xored t (be4 c)) (xor_be4 y b))
    ∙ rw (p4, p3, p2, xor_be4 x y, p1) (mixed_is x)

-- ---- whole states

bytes_out : (a b c d : ℕ) {p q r t : List ℕ} → be4 a ≡ p → be4 b ≡ q → be4 c ≡ r → be4 d ≡ t → C.bytes_of (a ∷ b ∷ c ∷ d ∷ []) ≡ p ++ (q ++ (r ++ t))
unfolding C.bytes_of
bytes_out a b c d e f g h = rw (e, f, g, h)

mix_split : (s : List ℕ) → C.mixed (be4 (get_or s 0 0)) ++ (C.mixed (be4 (get_or s 1 0)) ++ (C.mixed (be4 (get_or s 2 0)) ++ C.mixed (be4 (get_or s 3 0)))) ≡ S.mix_columns (C.bytes_of s)
unfolding C.mixed C.bytes_of S.mix_columns S.at be4
mix_split s = refl

sub_split : (s : List ℕ) →
    (S.sub_byte (get_or s 0 0 / 16777216 % 256) ∷ S.sub_byte (get_or s 1 0 / 65536 % 256) ∷ S.sub_byte (get_or s 2 0 / 256 % 256) ∷ S.sub_byte (get_or s 3 0 % 256) ∷ [])
    ++ ((S.sub_byte (get_or s 1 0 / 16777216 % 256) ∷ S.sub_byte (get_or s 2 0 / 65536 % 256) ∷ S.sub_byte (get_or s 3 0 / 256 % 256) ∷ S.sub_byte (get_or s 0 0 % 256) ∷ [])
    ++ ((S.sub_byte (get_or s 2 0 / 16777216 % 256) ∷ S.sub_byte (get_or s 3 0 / 65536 % 256) ∷ S.sub_byte (get_or s 0 0 / 256 % 256) ∷ S.sub_byte (get_or s 1 0 % 256) ∷ [])
    ++ (S.sub_byte (get_or s 3 0 / 16777216 % 256) ∷ S.sub_byte (get_or s 0 0 / 65536 % 256) ∷ S.sub_byte (get_or s 1 0 / 256 % 256) ∷ S.sub_byte (get_or s 2 0 % 256) ∷ [])))
    ≡ S.shift_rows (S.sub_bytes (C.bytes_of s))
unfolding C.bytes_of S.shift_rows S.sub_bytes S.at be4
sub_split s = refl

key_split : (s : List ℕ) (a b c d : ℕ) → S.xored (be4 (get_or s 0 0)) (be4 a) ++ (S.xored (be4 (get_or s 1 0)) (be4 b) ++ (S.xored (be4 (get_or s 2 0)) (be4 c) ++ S.xored (be4 (get_or s 3 0)) (be4 d)))
    ≡ S.xored (C.bytes_of s) (be4 a ++ (be4 b ++ (be4 c ++ be4 d)))
unfolding C.bytes_of S.xored be4
key_split s a b c d = refl

whole : (b : List ℕ) → length b ≡ 16 → part b 0 16 ≡ b
unfolding part
whole b e = take_all 16 b (omega arith)

pub mix_all : (s r : List ℕ) → ((i : ℕ) → i < 4 → be4 (get_or r i 0) ≡ C.mixed (be4 (get_or s i 0))) → C.bytes_of r ≡ S.mix_columns (C.bytes_of s)
unfolding C.bytes_of
mix_all s r f = rw (f 0 (omega arith), f 1 (omega arith), f 2 (omega arith), f 3 (omega arith)) (mix_split s)

pub sub-all : (s : List ℕ) (a b c d : ℕ)
    → be4 a ≡ S.sub_byte (get_or s 0 0 / 16777216 % 256) ∷ S.sub_byte (get_or s 1 0 / 65536 % 256) ∷ S.sub_byte (get_or s 2 0 / 256 % 256) ∷ S.sub_byte (get_or s 3 0 % 256) ∷ []
    → be4 b ≡ S.sub_byte (get_or s 1 0 / 16777216 % 256) ∷ S.sub_byte (get_or s 2 0 / 65536 % 256) ∷ S.sub_byte (get_or s 3 0 / 256 % 256) ∷ S.sub_byte (get_or s 0 0 % 256) ∷ []
    → be4 c ≡ S.sub_byte (get_or s 2 0 / 16777216 % 256) ∷ S.sub_byte (get_or s 3 0 / 65536 % 256) ∷ S.sub_byte (get_or s 0 0 / 256 % 256) ∷ S.sub_byte (get_or s 1 0 % 256) ∷ []
    → be4 d ≡ S.sub_byte (get_or s 3 0 / 16777216 % 256) ∷ S.sub_byte (get_or s 0 0 / 65536 % 256) ∷ S.sub_byte (get_or s 1 0 / 256 % 256) ∷ S.sub_byte (get_or s 2 0 % 256) ∷ []
    → C.bytes_of (a ∷ b ∷ c ∷ d ∷ []) ≡ S.shift_rows (S.sub_bytes (C.bytes_of s))
sub-all s a b c d p q r t = bytes_out a b c d p q r t ∙ sub_split s

-- sixteen bytes in four words
part_sixteen : (w : List ℕ) (a : ℕ) → part w a 16 ≡ part w a 4 ++ (part w (a + 4) 4 ++ (part w (a + 8) 4 ++ part w (a + 12) 4))
unfolding part
part_sixteen w a =
    take-add 4 12 (drop a w)
    ∙ ap (λ (t : List ℕ). take 4 (drop a w) ++ t)
    (rw (drop-drop 4 a w)
    (take-add 4 8 (drop (a + 4) w)
    ∙ ap (λ (t : List ℕ). take 4 (drop (a + 4) w) ++ t)
    (ap (take 8) (drop-drop 4 (a + 4) w ∙ ap (λ (k : ℕ). drop k w) (add_assoc a 4 4))
    ∙ take-add 4 4 (drop (a + 8) w)
    ∙ ap (λ (t : List ℕ). take 4 (drop (a + 8) w) ++ t) (ap (take 4) (drop-drop 4 (a + 8) w ∙ ap (λ (k : ℕ). drop k w) (add_assoc a 8 4))))))

pub key-all : (s w : List ℕ) (n a b c d : ℕ) → be4 a ≡ part w (16 * n) 4 → be4 b ≡ part w (16 * n + 4) 4 → be4 c ≡ part w (16 * n + 8) 4 → be4 d ≡ part w (16 * n + 12) 4
    → C.bytes_of (bit_xor (get_or s 0 0) a ∷ bit_xor (get_or s 1 0) b ∷ bit_xor (get_or s 2 0) c ∷ bit_xor (get_or s 3 0) d ∷ []) ≡ S.add_round_key (C.bytes_of s) w n
unfolding S.add_round_key
key-all s w n a b c d p q r t =
    bytes_out _ _ _ _ (xor_be4 (get_or s 0 0) a) (xor_be4 (get_or s 1 0) b) (xor_be4 (get_or s 2 0) c) (xor_be4 (get_or s 3 0) d)
    ∙ key_split s a b c d
    ∙ ap (S.xored (C.bytes_of s)) (rw (part_sixteen w (16 * n), p, q, r, t))

pub columns_is : (b : List ℕ) (k0 k1 k2 k3 : ℕ) → length b ≡ 16 → be4 k0 ≡ part b 0 4 → be4 k1 ≡ part b 4 4 → be4 k2 ≡ part b 8 4 → be4 k3 ≡ part b 12 4
    → C.bytes_of (k0 ∷ k1 ∷ k2 ∷ k3 ∷ []) ≡ b
columns_is b k0 k1 k2 k3 e p q r t = bytes_out k0 k1 k2 k3 p q r t ∙ sym (part_sixteen b 0) ∙ whole b e

pub bytes_is : (s : List ℕ) {d1 d2 d3 d4 : List ℕ} → d1 ≡ splice (replicate 16 0) 0 (be4 (get_or s 0 0)) → d2 ≡ splice d1 4 (be4 (get_or s 1 0)) → d3 ≡ splice d2 8 (be4 (get_or s 2 0))
    → d4 ≡ splice d3 12 (be4 (get_or s 3 0)) → d4 ≡ C.bytes_of s
unfolding splice be4 C.bytes_of
bytes_is s p1 p2 p3 p4 = rw (p4, p3, p2, p1)

-- ---- 5.1: the rounds

pub one_more : (w b s a m v : List ℕ) (i : ℕ) → 1 ≤ i → C.bytes_of s ≡ S.rounds w b (i - 1) → C.bytes_of a ≡ S.shift_rows (S.sub_bytes (C.bytes_of s)) → C.bytes_of m ≡ S.mix_columns (C.bytes_of a)
    → C.bytes_of v ≡ S.add_round_key (C.bytes_of m) w i → C.bytes_of v ≡ S.rounds w b (i + 1 - 1)
unfolding S.rounds S.round
one_more w b s a m v zero h p q r t = absurd (omega arith)
one_more w b s a m v (suc i) h p q r t =
    let e : suc i + 1 - 1 ≡ suc i = omega arith in
    let f : suc i - 1 ≡ i = omega arith in
    rw e (t ∙ ap (λ (x : List ℕ). S.add_round_key x w (suc i)) (r ∙ ap S.mix_columns (q ∙ ap (λ (x : List ℕ). S.shift_rows (S.sub_bytes x)) (p ∙ ap (S.rounds w b) f))))

pub no_round : (w s : List ℕ) → s ≡ S.rounds w s (1 - 1)
unfolding S.rounds
no_round w s = refl

pub cipher_is : (w b k f s a x r : List ℕ) (i n : ℕ) → i ≤ n → n ≤ i → C.bytes_of k ≡ b → C.bytes_of f ≡ S.add_round_key (C.bytes_of k) w 0 → C.bytes_of s ≡ S.rounds w (C.bytes_of f) (i - 1)
    → C.bytes_of a ≡ S.shift_rows (S.sub_bytes (C.bytes_of s)) → C.bytes_of x ≡ S.add_round_key (C.bytes_of a) w n → r ≡ C.bytes_of x → r ≡ S.cipher n w b
unfolding S.cipher
cipher_is w b k f s a x r i n g h l o p q t u =
    let e : i ≡ n = omega arith in
    let z : C.bytes_of f ≡ S.add_round_key b w 0 = o ∙ ap (λ (y : List ℕ). S.add_round_key y w 0) l in
    u ∙ t ∙ ap (λ (y : List ℕ). S.add_round_key y w n)
    (q ∙ ap (λ (y : List ℕ). S.shift_rows (S.sub_bytes y)) (p ∙ ap₂ (λ (y : List ℕ) (j : ℕ). S.rounds w y (j - 1)) z e))
