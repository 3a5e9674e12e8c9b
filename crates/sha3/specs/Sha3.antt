-- SHA3-224 and SHA3-256 after FIPS 202, in the standard's order, on lists of numbers. A state is its 25 lanes, numbers below 2 ^ 64, bit z of a
-- lane worth 2 ^ z; lane (x, y) stands at place 5 y + x. A message and a digest are lists of bytes. All definitions are total.
-- The main equations are `keccak_f` (the permutation), `sponge` (for any rate, in bytes), `sha3_224` and `sha3_256`; `one_block` is the
-- sponge's result for a message whose caller has begun the padding in a block of 64 bytes.
use Rattle.std.specs.Prelude.{ℕ, zero, suc, ◌+◌, ◌-◌, ◌*◌, ◌/◌, ◌%◌, ◌^◌, List, [], ◌∷◌, ◌++◌, length, get_or, set, take, replicate}
use Rattle.std.specs.Int.Bits.{bit_and, bit_xor}
use Rattle.laws.specs.Lists.{part}

-- f 0, f 1, .. f (n - 1)
unfoldable pub up_to : ℕ → (ℕ → ℕ) → List ℕ
up_to zero f = []
up_to (suc n) f = up_to n f ++ (f n ∷ [])

-- ---- 3.1: the state

-- the lane (x, y) of a state
unfoldable pub at : List ℕ → ℕ → ℕ → ℕ
at s x y = get_or s (5 * y + x) 0

-- the state whose lane (x, y) is f x y
unfoldable pub state : (ℕ → ℕ → ℕ) → List ℕ
state f = up_to 25 (λ i. f (i % 5) (i / 5))

-- a lane rotated: bit z moves to bit z + n modulo 64. The two parts have no bit in common
unfoldable pub rotl : ℕ → ℕ → ℕ
rotl n x = bit_xor ((x * 2 ^ n) % 2 ^ 64) (x / 2 ^ (64 - n))

-- the lane whose bits are all 1
abbrev pub ones : ℕ
ones = 2 ^ 64 - 1

-- a lane with 1 added to each bit
unfoldable pub inverted : ℕ → ℕ
inverted x = bit_xor x ones

-- ---- 3.2.1: θ

-- step 1: C, the sum of each column x
unfoldable pub columns : List ℕ → List ℕ
columns s = up_to 5 (λ x. bit_xor (bit_xor (bit_xor (bit_xor (at s x 0) (at s x 1)) (at s x 2)) (at s x 3)) (at s x 4))

-- step 2: D, from the columns' sums c
unfoldable pub effects : List ℕ → List ℕ
effects c = up_to 5 (λ x. bit_xor (get_or c ((x + 4) % 5) 0) (rotl 1 (get_or c ((x + 1) % 5) 0)))

-- step 3: D is added to each column
unfoldable pub applied : List ℕ → List ℕ → List ℕ
applied s d = state (λ x y. bit_xor (at s x y) (get_or d x 0))

unfoldable pub θ : List ℕ → List ℕ
θ s = applied s (effects (columns s))

-- ---- 3.2.2: ρ

-- steps 2 and 3: the lanes (x, y) in the order of t, as places 5 y + x: first (1, 0), and after (x, y) comes (y, 2 x + 3 y modulo 5)
unfoldable pub visited : ℕ → ℕ
visited zero = 1
visited (suc t) = let p = visited t in 5 * ((2 * (p % 5) + 3 * (p / 5)) % 5) + p / 5

-- the offset of each lane, for those that come before t; lane (0, 0) has none
unfoldable pub offsets : ℕ → List ℕ
offsets zero = replicate 25 0
offsets (suc t) = set (offsets t) (visited t) ((t + 1) * (t + 2) / 2 % 64)

-- step 1: lane (0, 0) stays
unfoldable pub ρ : List ℕ → List ℕ
ρ s = let o = offsets 24 in set (state (λ x y. rotl (at o x y) (at s x y))) 0 (at s 0 0)

-- ---- 3.2.3: π
unfoldable pub π : List ℕ → List ℕ
π s = state (λ x y. at s ((x + 3 * y) % 5) x)

-- ---- 3.2.4: χ
unfoldable pub χ : List ℕ → List ℕ
χ s = state (λ x y. bit_xor (at s x y) (bit_and (inverted (at s ((x + 1) % 5) y)) (at s ((x + 2) % 5) y)))

-- ---- 3.2.5: ι

-- Algorithm 5: R after t steps, R[i] its bit worth 2 ^ i. A step moves each bit up by one, and the one that leaves is added to the bits 0, 4, 5, 6
unfoldable pub register : ℕ → ℕ
register zero = 1
register (suc t) = let r = register t in bit_xor (r % 2 ^ 7 * 2) (r / 2 ^ 7 * 0x71)

unfoldable pub rc : ℕ → ℕ
rc t = register (t % 255) % 2

-- Algorithm 6, steps 2 and 3: of the constant of round i, the bits 2 ^ j - 1 for j below n
unfoldable pub constant_bits : ℕ → ℕ → ℕ
constant_bits i zero = 0
constant_bits i (suc j) = constant_bits i j + rc (j + 7 * i) * 2 ^ (2 ^ j - 1)

-- RC, the constant of round i
unfoldable pub RC : ℕ → ℕ
RC i = constant_bits i 7

-- step 4: the state s with the constant k added
unfoldable pub ι : List ℕ → ℕ → List ℕ
ι s k = set s 0 (bit_xor (at s 0 0) k)

-- ---- 3.3, 3.4: the permutation

-- the steps of a round, with its constant k
unfoldable pub steps : List ℕ → ℕ → List ℕ
steps s k = ι (χ (π (ρ (θ s)))) k

-- Rnd: round i
unfoldable pub round : List ℕ → ℕ → List ℕ
round s i = steps s (RC i)

-- the rounds 0 to n - 1
unfoldable pub rounds : List ℕ → ℕ → List ℕ
rounds s zero = s
rounds s (suc n) = round (rounds s n) n

-- KECCAK-f[1600]: 24 rounds
unfoldable pub keccak_f : List ℕ → List ℕ
keccak_f s = rounds s 24

-- ---- 3.1.2, 3.1.3, B.1: a state and its 200 bytes, the lowest of each lane first

-- the number of the eight bytes at place a
unfoldable pub lane_at : List ℕ → ℕ → ℕ
lane_at b a =
    get_or b a 0 + get_or b (a + 1) 0 * 256 + get_or b (a + 2) 0 * 256 ^ 2 + get_or b (a + 3) 0 * 256 ^ 3
    + get_or b (a + 4) 0 * 256 ^ 4 + get_or b (a + 5) 0 * 256 ^ 5 + get_or b (a + 6) 0 * 256 ^ 6 + get_or b (a + 7) 0 * 256 ^ 7

unfoldable pub lanes : List ℕ → List ℕ
lanes b = up_to 25 (λ i. lane_at b (8 * i))

unfoldable pub lane_bytes : ℕ → List ℕ
lane_bytes x =
    x % 256 ∷ x / 256 % 256 ∷ x / 256 ^ 2 % 256 ∷ x / 256 ^ 3 % 256 ∷
    x / 256 ^ 4 % 256 ∷ x / 256 ^ 5 % 256 ∷ x / 256 ^ 6 % 256 ∷ x / 256 ^ 7 % 256 ∷ []

unfoldable pub bytes : List ℕ → List ℕ
bytes [] = []
bytes (x ∷ s) = lane_bytes x ++ bytes s

-- ---- 5.1 (Algorithm 9), 6.1, B.2: padding

-- q bytes of padding: the bits 01 of the SHA-3 functions, and pad10*1
unfoldable pub padding : ℕ → List ℕ
padding zero = []
padding (suc zero) = 0x86 ∷ []
padding (suc (suc q)) = 0x06 ∷ (replicate q 0 ++ (0x80 ∷ []))

-- the message m, padded to a whole number of blocks of r bytes
unfoldable pub padded : ℕ → List ℕ → List ℕ
padded r m = m ++ padding (r - length m % r)

-- ---- 4 (Algorithm 8): the sponge, for a rate of r bytes

-- the lanes of two states, added
unfoldable pub added : List ℕ → List ℕ → List ℕ
added s t = up_to 25 (λ i. bit_xor (get_or s i 0) (get_or t i 0))

-- step 6: the state after s by the block b, which zeros follow to 200 bytes
unfoldable pub absorb : List ℕ → List ℕ → List ℕ
absorb s b = keccak_f (added s (lanes (b ++ replicate (200 - length b) 0)))

-- step 4: block n of p
unfoldable pub block : ℕ → List ℕ → ℕ → List ℕ
block r p n = part p (n * r) r

-- steps 5 and 6: the state after the first n blocks of p
unfoldable pub absorbed : ℕ → List ℕ → ℕ → List ℕ
absorbed r p zero = replicate 25 0
absorbed r p (suc n) = absorb (absorbed r p n) (block r p n)

-- steps 7 to 10: n times r bytes from the state s on
unfoldable pub squeezed : ℕ → List ℕ → ℕ → List ℕ
squeezed r s zero = []
squeezed r s (suc n) = take r (bytes s) ++ squeezed r (keccak_f s) n

-- d bytes for the message m
unfoldable pub sponge : ℕ → List ℕ → ℕ → List ℕ
sponge r m d =
    let p = padded r m in
    take d (squeezed r (absorbed r p (length p / r)) ((d + (r - 1)) / r))

-- ---- 6.1: the hash functions; the capacity is twice the digest's length

unfoldable pub sha3_224 : List ℕ → List ℕ
sha3_224 m = sponge 144 m 28

unfoldable pub sha3_256 : List ℕ → List ℕ
sha3_256 m = sponge 136 m 32

-- ---- a message of one block

-- the first 32 bytes after the one block of a rate of r bytes that begins with the 64 bytes b and ends with the byte 0x80
unfoldable pub one_block : ℕ → List ℕ → List ℕ
one_block r b = take 32 (bytes (absorb (replicate 25 0) (b ++ (replicate (r - 65) 0 ++ (0x80 ∷ [])))))
