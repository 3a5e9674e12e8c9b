-- AES encryption after FIPS 197, in the standard's order, on lists of bytes: a byte is a number below 2 ^ 8. A state is its 16 bytes in
-- input order, so that s[r,c] is byte r + 4c (3.4); a word is four bytes, and the round keys are the words one after the other.
-- One definition serves the three key lengths, through Nk. The main equations are `sub_byte` (the S-box by its field rule), `cipher`,
-- `expanded` (the round keys of a key) and `aes` (a block under a key). Every definition is total: a key of other than 16, 24 or 32 bytes
-- counts as its first 16, 24 or 32, and one below 16 is followed by zeros.
use Rattle.std.specs.Prelude.{ℕ, zero, suc, ◌+◌, ◌-◌, ◌*◌, ◌/◌, ◌%◌, ◌^◌, cond, ◌&&◌, List, [], ◌∷◌, ◌++◌, map, eqb, ltb, length, get_or, take, replicate}
use Rattle.std.specs.Int.Bits.{bit_xor}
use Rattle.laws.specs.Lists.{part}

-- ---- 4.1: addition is exclusive or, of bytes (bit_xor) and of lists of bytes

unfoldable pub xored : List ℕ → List ℕ → List ℕ
xored [] ys = []
xored (x ∷ xs) [] = []
xored (x ∷ xs) (y ∷ ys) = bit_xor x y ∷ xored xs ys

-- ---- 4.2: multiplication, modulo x^8 + x^4 + x^3 + x + 1

-- b times x: its bits move up by one, and where bit 7 was 1, x^8 counts as x^4 + x^3 + x + 1
unfoldable pub xtime : ℕ → ℕ
xtime b = bit_xor (b % 128 * 2) (b / 128 * 0x1b)

-- the product of b and the n low bits of a: the sum of b, x b, x^2 b, .. where the bits 0, 1, 2, .. of a are 1
unfoldable pub times_bits : ℕ → ℕ → ℕ → ℕ
times_bits zero a b = 0
times_bits (suc n) a b = bit_xor (a % 2 * b) (times_bits n (a / 2) (xtime b))

-- a • b
unfoldable pub times : ℕ → ℕ → ℕ
times a b = times_bits 8 a b

-- ---- 4.4: the multiplicative inverse

-- b^254, as the product of b^2, b^4, b^8, .. b^128: the inverse of b, and 0 for 0
unfoldable pub inverse : ℕ → ℕ
inverse b =
    let b2 = times b b in
    let b4 = times b2 b2 in
    let b8 = times b4 b4 in
    let b16 = times b8 b8 in
    let b32 = times b16 b16 in
    let b64 = times b32 b32 in
    let b128 = times b64 b64 in
    times b2 (times b4 (times b8 (times b16 (times b32 (times b64 b128)))))

-- ---- 5.1.1: SubBytes

-- bit i of b, counted in eights
unfoldable pub bit : ℕ → ℕ → ℕ
bit b i = b / 2 ^ (i % 8) % 2

-- (5.2): bit i of the S-box's affine transformation; the constant c is 0x63
unfoldable pub affine_bit : ℕ → ℕ → ℕ
affine_bit b i = (bit b i + bit b (i + 4) + bit b (i + 5) + bit b (i + 6) + bit b (i + 7) + bit 0x63 i) % 2

-- its n low bits as a number
unfoldable pub affine_bits : ℕ → ℕ → ℕ
affine_bits b zero = 0
affine_bits b (suc n) = affine_bits b n + affine_bit b n * 2 ^ n

unfoldable pub affine : ℕ → ℕ
affine b = affine_bits b 8

-- the S-box by its rule
unfoldable pub sub_byte : ℕ → ℕ
sub_byte b = affine (inverse b)

-- the S-box as a table (Table 4): its entry at b is sub_byte b for every byte b (proofs/Table.antt)
unfoldable pub SBOX : List ℕ
SBOX =
    0x63 ∷ 0x7c ∷ 0x77 ∷ 0x7b ∷ 0xf2 ∷ 0x6b ∷ 0x6f ∷ 0xc5 ∷ 0x30 ∷ 0x01 ∷ 0x67 ∷ 0x2b ∷ 0xfe ∷ 0xd7 ∷ 0xab ∷ 0x76 ∷
    0xca ∷ 0x82 ∷ 0xc9 ∷ 0x7d ∷ 0xfa ∷ 0x59 ∷ 0x47 ∷ 0xf0 ∷ 0xad ∷ 0xd4 ∷ 0xa2 ∷ 0xaf ∷ 0x9c ∷ 0xa4 ∷ 0x72 ∷ 0xc0 ∷
    0xb7 ∷ 0xfd ∷ 0x93 ∷ 0x26 ∷ 0x36 ∷ 0x3f ∷ 0xf7 ∷ 0xcc ∷ 0x34 ∷ 0xa5 ∷ 0xe5 ∷ 0xf1 ∷ 0x71 ∷ 0xd8 ∷ 0x31 ∷ 0x15 ∷
    0x04 ∷ 0xc7 ∷ 0x23 ∷ 0xc3 ∷ 0x18 ∷ 0x96 ∷ 0x05 ∷ 0x9a ∷ 0x07 ∷ 0x12 ∷ 0x80 ∷ 0xe2 ∷ 0xeb ∷ 0x27 ∷ 0xb2 ∷ 0x75 ∷
    0x09 ∷ 0x83 ∷ 0x2c ∷ 0x1a ∷ 0x1b ∷ 0x6e ∷ 0x5a ∷ 0xa0 ∷ 0x52 ∷ 0x3b ∷ 0xd6 ∷ 0xb3 ∷ 0x29 ∷ 0xe3 ∷ 0x2f ∷ 0x84 ∷
    0x53 ∷ 0xd1 ∷ 0x00 ∷ 0xed ∷ 0x20 ∷ 0xfc ∷ 0xb1 ∷ 0x5b ∷ 0x6a ∷ 0xcb ∷ 0xbe ∷ 0x39 ∷ 0x4a ∷ 0x4c ∷ 0x58 ∷ 0xcf ∷
    0xd0 ∷ 0xef ∷ 0xaa ∷ 0xfb ∷ 0x43 ∷ 0x4d ∷ 0x33 ∷ 0x85 ∷ 0x45 ∷ 0xf9 ∷ 0x02 ∷ 0x7f ∷ 0x50 ∷ 0x3c ∷ 0x9f ∷ 0xa8 ∷
    0x51 ∷ 0xa3 ∷ 0x40 ∷ 0x8f ∷ 0x92 ∷ 0x9d ∷ 0x38 ∷ 0xf5 ∷ 0xbc ∷ 0xb6 ∷ 0xda ∷ 0x21 ∷ 0x10 ∷ 0xff ∷ 0xf3 ∷ 0xd2 ∷
    0xcd ∷ 0x0c ∷ 0x13 ∷ 0xec ∷ 0x5f ∷ 0x97 ∷ 0x44 ∷ 0x17 ∷ 0xc4 ∷ 0xa7 ∷ 0x7e ∷ 0x3d ∷ 0x64 ∷ 0x5d ∷ 0x19 ∷ 0x73 ∷
    0x60 ∷ 0x81 ∷ 0x4f ∷ 0xdc ∷ 0x22 ∷ 0x2a ∷ 0x90 ∷ 0x88 ∷ 0x46 ∷ 0xee ∷ 0xb8 ∷ 0x14 ∷ 0xde ∷ 0x5e ∷ 0x0b ∷ 0xdb ∷
    0xe0 ∷ 0x32 ∷ 0x3a ∷ 0x0a ∷ 0x49 ∷ 0x06 ∷ 0x24 ∷ 0x5c ∷ 0xc2 ∷ 0xd3 ∷ 0xac ∷ 0x62 ∷ 0x91 ∷ 0x95 ∷ 0xe4 ∷ 0x79 ∷
    0xe7 ∷ 0xc8 ∷ 0x37 ∷ 0x6d ∷ 0x8d ∷ 0xd5 ∷ 0x4e ∷ 0xa9 ∷ 0x6c ∷ 0x56 ∷ 0xf4 ∷ 0xea ∷ 0x65 ∷ 0x7a ∷ 0xae ∷ 0x08 ∷
    0xba ∷ 0x78 ∷ 0x25 ∷ 0x2e ∷ 0x1c ∷ 0xa6 ∷ 0xb4 ∷ 0xc6 ∷ 0xe8 ∷ 0xdd ∷ 0x74 ∷ 0x1f ∷ 0x4b ∷ 0xbd ∷ 0x8b ∷ 0x8a ∷
    0x70 ∷ 0x3e ∷ 0xb5 ∷ 0x66 ∷ 0x48 ∷ 0x03 ∷ 0xf6 ∷ 0x0e ∷ 0x61 ∷ 0x35 ∷ 0x57 ∷ 0xb9 ∷ 0x86 ∷ 0xc1 ∷ 0x1d ∷ 0x9e ∷
    0xe1 ∷ 0xf8 ∷ 0x98 ∷ 0x11 ∷ 0x69 ∷ 0xd9 ∷ 0x8e ∷ 0x94 ∷ 0x9b ∷ 0x1e ∷ 0x87 ∷ 0xe9 ∷ 0xce ∷ 0x55 ∷ 0x28 ∷ 0xdf ∷
    0x8c ∷ 0xa1 ∷ 0x89 ∷ 0x0d ∷ 0xbf ∷ 0xe6 ∷ 0x42 ∷ 0x68 ∷ 0x41 ∷ 0x99 ∷ 0x2d ∷ 0x0f ∷ 0xb0 ∷ 0x54 ∷ 0xbb ∷ 0x16 ∷ []

-- SubBytes of a state, and SubWord (5.2) of a word
unfoldable pub sub_bytes : List ℕ → List ℕ
sub_bytes s = map sub_byte s

-- ---- 5.1.2: ShiftRows

-- s[r,c]
unfoldable pub at : List ℕ → ℕ → ℕ → ℕ
at s r c = get_or s (r + 4 * c) 0

-- (5.5): s[r,c] becomes s[r,(c + r) mod 4]; a line is a column
unfoldable pub shift_rows : List ℕ → List ℕ
shift_rows s =
    at s 0 0 ∷ at s 1 1 ∷ at s 2 2 ∷ at s 3 3 ∷
    at s 0 1 ∷ at s 1 2 ∷ at s 2 3 ∷ at s 3 0 ∷
    at s 0 2 ∷ at s 1 3 ∷ at s 2 0 ∷ at s 3 1 ∷
    at s 0 3 ∷ at s 1 0 ∷ at s 2 1 ∷ at s 3 2 ∷ []

-- ---- 5.1.3: MixColumns

-- (5.8): one column
unfoldable pub mix_column : ℕ → ℕ → ℕ → ℕ → List ℕ
mix_column s0 s1 s2 s3 =
    bit_xor (bit_xor (bit_xor (times 2 s0) (times 3 s1)) s2) s3
    ∷ bit_xor (bit_xor (bit_xor s0 (times 2 s1)) (times 3 s2)) s3
    ∷ bit_xor (bit_xor (bit_xor s0 s1) (times 2 s2)) (times 3 s3)
    ∷ bit_xor (bit_xor (bit_xor (times 3 s0) s1) s2) (times 2 s3)
    ∷ []

unfoldable pub mix_columns : List ℕ → List ℕ
mix_columns s =
    mix_column (at s 0 0) (at s 1 0) (at s 2 0) (at s 3 0)
    ++ (mix_column (at s 0 1) (at s 1 1) (at s 2 1) (at s 3 1)
    ++ (mix_column (at s 0 2) (at s 1 2) (at s 2 2) (at s 3 2)
    ++ (mix_column (at s 0 3) (at s 1 3) (at s 2 3) (at s 3 3))))

-- ---- 5.1.4: AddRoundKey

-- round r: its key is the words 4r to 4r + 3 of w
unfoldable pub add_round_key : List ℕ → List ℕ → ℕ → List ℕ
add_round_key s w r = xored s (part w (16 * r) 16)

-- ---- 5.1: Cipher (Algorithm 1)

-- one round but the last
unfoldable pub round : List ℕ → List ℕ → ℕ → List ℕ
round w s r = add_round_key (mix_columns (shift_rows (sub_bytes s))) w r

-- the state after s, by the rounds 1 to n
unfoldable pub rounds : List ℕ → List ℕ → ℕ → List ℕ
rounds w s zero = s
rounds w s (suc n) = round w (rounds w s n) (suc n)

-- the block b after nr rounds with the round keys w; the last round has no MixColumns
unfoldable pub cipher : ℕ → List ℕ → List ℕ → List ℕ
cipher nr w b = add_round_key (shift_rows (sub_bytes (rounds w (add_round_key b w 0) (nr - 1)))) w nr

-- ---- 5.2: KeyExpansion (Algorithm 2)

-- Nk: how many words of a key of n bytes count; 4, 6 and 8 for 16, 24 and 32 bytes
unfoldable pub nk_of : ℕ → ℕ
nk_of n = cond (ltb n 24) 4 (cond (ltb n 32) 6 8)

-- Nr, for a key of n bytes: 10, 12 or 14 (Table 3)
unfoldable pub rounds_of : ℕ → ℕ
rounds_of n = nk_of n + 6

-- w[i]
unfoldable pub word : List ℕ → ℕ → List ℕ
word w i = part w (4 * i) 4

unfoldable pub rot_word : List ℕ → List ℕ
rot_word a = get_or a 1 0 ∷ get_or a 2 0 ∷ get_or a 3 0 ∷ get_or a 0 0 ∷ []

-- x^n
unfoldable pub x_power : ℕ → ℕ
x_power zero = 1
x_power (suc n) = xtime (x_power n)

-- Rcon[j], j from 1 on (Table 5)
unfoldable pub rcon : ℕ → List ℕ
rcon j = x_power (j - 1) ∷ 0 ∷ 0 ∷ 0 ∷ []

-- lines 7 to 13: what is added to w[i - Nk], where t is w[i - 1]
unfoldable pub temp : ℕ → ℕ → List ℕ → List ℕ
temp nk i t =
    cond (eqb (i % nk) 0) (xored (sub_bytes (rot_word t)) (rcon (i / nk)))
    (cond (ltb 6 nk && eqb (i % nk) 4) (sub_bytes t) t)

-- line 14: w[i], from the words w before it
unfoldable pub next_word : ℕ → List ℕ → ℕ → List ℕ
next_word nk w i = xored (word w (i - nk)) (temp nk i (word w (i - 1)))

-- the key's words k, Nk of them, and the n words that follow
unfoldable pub key_words : ℕ → List ℕ → ℕ → List ℕ
key_words nk k zero = k
key_words nk k (suc n) = let w = key_words nk k n in w ++ next_word nk w (nk + n)

-- the bytes of the key k that count, and zeros to 16 where it is shorter
unfoldable pub key_bytes : List ℕ → List ℕ
key_bytes k = take (4 * nk_of (length k)) k ++ replicate (16 - length k) 0

-- the 4 (Nr + 1) words of the key k
unfoldable pub key_schedule : List ℕ → List ℕ
key_schedule k =
    let nk = nk_of (length k) in
    key_words nk (key_bytes k) (4 * (rounds_of (length k) + 1) - nk)

-- the same with zeros to 240 bytes, which is as many as the longest key has
unfoldable pub expanded : List ℕ → List ℕ
expanded k = let w = key_schedule k in w ++ replicate (240 - length w) 0

-- ---- 5: the block b under the key k
unfoldable pub aes : List ℕ → List ℕ → List ℕ
aes k b = cipher (rounds_of (length k)) (expanded k) b
