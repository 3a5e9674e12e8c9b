-- Bits and bytes of byte strings (01: "high byte first; bit 0 is the most significant").
-- One definition serves every offset and every width.
use Rattle.std.specs.Prelude.{ℕ, zero, suc, ◌+◌, ◌-◌, ◌*◌, ◌/◌, ◌%◌, ◌^◌, Bool, true, false, ◌&&◌, ◌||◌, List, [], ◌∷◌, ◌++◌, length, get_or, drop, replicate}
unfoldable pub use Rattle.laws.specs.Lists.{same}

-- bit i of a byte string
unfoldable pub bit : List ℕ → ℕ → ℕ
bit s i = get_or s (i / 8) 0 / 2 ^ (7 - i % 8) % 2

-- the number in the n bits from bit `at` on
unfoldable pub bits : List ℕ → ℕ → ℕ → ℕ
bits s at zero = 0
bits s at (suc n) = bits s at n * 2 + bit s (at + n)

-- the n bits from bit `at` on, one by one
unfoldable pub bit_list : List ℕ → ℕ → ℕ → List ℕ
bit_list s at zero = []
bit_list s at (suc n) = bit_list s at n ++ (bit s (at + n) ∷ [])

-- the n bytes from bit `at` on
unfoldable pub bytes_at : List ℕ → ℕ → ℕ → List ℕ
bytes_at s at zero = []
bytes_at s at (suc n) = bytes_at s at n ++ (bits s (at + 8 * n) 8 ∷ [])

-- the first eight bits of a list as a byte; a bit that is not there is 0
unfoldable pub octet : List ℕ → ℕ
octet l =
    get_or l 0 0 * 128 + get_or l 1 0 * 64 + get_or l 2 0 * 32 + get_or l 3 0 * 16 + get_or l 4 0 * 8 + get_or l 5 0 * 4 + get_or l 6 0 * 2 + get_or l 7 0

-- a list of bits packed into n bytes, zero bits after its end
unfoldable pub packed : List ℕ → ℕ → List ℕ
packed l zero = []
packed l (suc n) = packed l n ++ (octet (drop (8 * n) l) ∷ [])

-- "short ones followed by zeros": n bytes
unfoldable pub filled : ℕ → List ℕ → List ℕ
filled n l = l ++ replicate (n - length l) 0

-- one of the conditions holds
abbrev pub any_of : List Bool → Bool
any_of [] = false
any_of (b ∷ bs) = b || any_of bs

-- all of the conditions hold
abbrev pub all_of : List Bool → Bool
all_of [] = true
all_of (b ∷ bs) = b && all_of bs

-- a number lies in a range, both ends included
abbrev pub within : ℕ → ℕ → ℕ → Bool
within low high n = lib.Dec.leb low n && lib.Dec.leb n high
