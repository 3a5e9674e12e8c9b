-- A navigation set in the pieces that the program writes, where the five words stand one after the other, 128 bits each.
-- proofs/Gathered.antt shows that the pieces, joined, are the set of the rules.
use Rattle.std.specs.Prelude.{ℕ, ◌+◌, ◌-◌, ◌*◌, ◌/◌, ◌%◌, ◌^◌, List, ◌∷◌, ◌++◌}
use Rattle.laws.specs.Bytes.{be4, be8}
use Rattle.rules.specs.Bits.{bits}

-- n bits of one string, then bits of another: 64 in all
unfoldable pub pair_of : List ℕ → ℕ → ℕ → List ℕ → ℕ → ℕ
pair_of s at n u to = bits s at n * 2 ^ (64 - n) + bits u to (64 - n)

-- a piece of a set: of the word that starts at bit b, 64 bits from its bit `from` on; then its next n bits and the first of the next word, from bit 6 on: 16 bytes
unfoldable pub piece_of : List ℕ → ℕ → ℕ → ℕ → List ℕ
piece_of w b from n = be8 (bits w (b + from) 64) ++ be8 (pair_of w (b + (64 + from)) n w (b + 134))

-- a number of 40 bits in five bytes
unfoldable pub five_of : ℕ → List ℕ
five_of x = x / 256 ^ 4 % 256 ∷ be4 (x % 256 ^ 4)
