-- CMAC with AES, after NIST SP 800-38B, section 6, on lists of bytes: a block has b = 128 bits, which are 16 bytes.
-- RFC 4493 is the same for a key of 128 bits. The main equation is `cmac`.
-- `kept_of` and `cmac_with` say what is kept of a key, and how a message is authenticated with it: cmac_with (kept_of k) m is cmac k m
-- for every key and message (proofs/Kept.antt). What is shown of the padding and of a truncated code is in Shown.antt.
use Rattle.std.specs.Prelude.{ℕ, zero, suc, ◌+◌, ◌-◌, ◌*◌, ◌/◌, ◌%◌, ◌^◌, cond, List, [], ◌∷◌, ◌++◌, ltb, eqb, length, get_or, take, drop, replicate}
use Rattle.std.specs.Int.Bits.{bit_or}
use Rattle.laws.specs.Lists.{part}
use Rattle.aes.specs.Aes.{xored, rounds_of, expanded, cipher, aes}

-- ---- 4.2: operations; X ⊕ Y is `xored`

-- X << 1
unfoldable pub shifted : List ℕ → List ℕ
shifted [] = []
shifted (x ∷ xs) = bit_or (x * 2 % 256) (get_or xs 0 0 / 128) ∷ shifted xs

-- bit i of a byte string, the most significant first
unfoldable pub bit : List ℕ → ℕ → ℕ
bit s i = get_or s (i / 8) 0 / 2 ^ (7 - i % 8) % 2

-- 0 ^ 128
unfoldable pub zero_block : List ℕ
zero_block = replicate 16 0

-- 5.3: R_128 = 0 ^ 120 10000111
unfoldable pub R128 : List ℕ
R128 = replicate 15 0 ++ (0x87 ∷ [])

-- ---- 6.1: subkeys

-- X << 1 where MSB_1(X) = 0, else (X << 1) ⊕ R_128
unfoldable pub doubled : List ℕ → List ℕ
doubled x = cond (eqb (bit x 0) 0) (shifted x) (xored (shifted x) R128)

-- steps 1 and 2: K1, from L = CIPH_K(0 ^ 128)
unfoldable pub K1 : (List ℕ → List ℕ) → List ℕ
K1 ciph = doubled (ciph zero_block)

-- step 3: K2, from K1
unfoldable pub K2 : (List ℕ → List ℕ) → List ℕ
K2 ciph = doubled (K1 ciph)

-- ---- 6.2: MAC generation

-- step 2: the number n of blocks of a message of so many bytes: 1 for no bytes, else the bytes by 16, rounded up
unfoldable pub blocks : ℕ → ℕ
blocks len = cond (eqb len 0) 1 ((len + 15) / 16)

-- step 3: M_n*, what is left of a message after n - 1 complete blocks
unfoldable pub rest : List ℕ → List ℕ
rest m = drop (16 * (blocks (length m) - 1)) m

-- step 4: M_n* where it is a complete block, else M_n* || 10 ^ j: a byte 0x80, and zeros to 16 bytes
unfoldable pub padded : List ℕ → List ℕ
padded r = cond (eqb (length r) 16) r (r ++ (0x80 ∷ replicate (15 - length r) 0))

-- the message, with the padding after its last block
unfoldable pub padded_message : List ℕ → List ℕ
padded_message m = take (16 * (blocks (length m) - 1)) m ++ padded (rest m)

-- step 4: M_n, which is K1 ⊕ M_n* for a complete block, else K2 ⊕ (M_n* || 10 ^ j)
unfoldable pub last_block : List ℕ → List ℕ → List ℕ → List ℕ
last_block k1 k2 r = xored (cond (eqb (length r) 16) k1 k2) (padded r)

-- steps 3 and 4: M_i, i from 1 to n
unfoldable pub block : List ℕ → List ℕ → List ℕ → ℕ → List ℕ
block k1 k2 m i = cond (ltb i (blocks (length m))) (part m (16 * (i - 1)) 16) (last_block k1 k2 (rest m))

-- steps 5 and 6: C_0 = 0 ^ 128, C_i = CIPH_K(C_(i - 1) ⊕ M_i)
unfoldable pub chained : (List ℕ → List ℕ) → List ℕ → List ℕ → List ℕ → ℕ → List ℕ
chained ciph k1 k2 m zero = zero_block
chained ciph k1 k2 m (suc i) = ciph (xored (chained ciph k1 k2 m i) (block k1 k2 m (suc i)))

-- step 6: C_n
unfoldable pub mac : (List ℕ → List ℕ) → List ℕ → List ℕ → List ℕ → List ℕ
mac ciph k1 k2 m = chained ciph k1 k2 m (blocks (length m))

-- the code of the message m under the key k, 16 bytes
unfoldable pub cmac : List ℕ → List ℕ → List ℕ
cmac k m = mac (aes k) (K1 (aes k)) (K2 (aes k)) m

-- the first n bits of a byte, and zero bits after them
unfoldable pub first_bits : ℕ → ℕ → ℕ
first_bits n x = x / 2 ^ (8 - n) * 2 ^ (8 - n)

-- step 7: MSB_n(T), and zero bits after them
unfoldable pub truncated : ℕ → List ℕ → List ℕ
truncated n [] = []
truncated n (x ∷ xs) = first_bits n x ∷ truncated (n - 8) xs

-- ---- a kept key

-- what is kept of a key: the round keys, K1, K2, and the number of rounds
unfoldable pub kept_of : List ℕ → List ℕ
kept_of k = expanded k ++ (K1 (aes k) ++ (K2 (aes k) ++ (rounds_of (length k) ∷ [])))

-- the number of rounds that a kept key says; any byte is read as a number from 1 to 14
unfoldable pub rounds_in : ℕ → ℕ
rounds_in x = cond (ltb x 1) 1 (cond (ltb 14 x) 14 x)

-- the code of the message m under a kept key
unfoldable pub cmac_with : List ℕ → List ℕ → List ℕ
cmac_with s m = mac (cipher (rounds_in (get_or s 272 0)) (part s 0 240)) (part s 240 16) (part s 256 16) m
