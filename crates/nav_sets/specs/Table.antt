-- Where each bit of a set comes from, row by row: "Authenticated are bits 6 to 125 of words 1, 2, 4, bits 6 to 127 of word 3, bits 6 to 72 of
-- word 5: 549 bits" (01), in the order of the words. `EachBit`, that each bit of the 69 bytes is the one that its row names, stands in the contract of
-- `each_bit`.
use Rattle.std.specs.Prelude.{ℕ, zero, suc, ◌+◌, ◌-◌, ◌<◌, ◌≡◌, cond, List, [], ◌∷◌, ltb, get_or}
use Rattle.rules.specs.Bits.{bit}
use Rattle.rules.specs.Navdata.{set_bytes}

-- a row of the table: a word, 1 to 5, and a bit of it
pub record Row : Type 0 where
  pub word : ℕ
  pub place : ℕ

-- the last authenticated bit of a word
unfoldable pub last_bit : ℕ → ℕ
last_bit word = get_or (125 ∷ 125 ∷ 127 ∷ 125 ∷ 72 ∷ []) (word - 1) 0

-- the row after a row: the word's next bit or, after its last one, bit 6 of the next word
unfoldable pub following : Row → Row
following r =
    cond (ltb r.place (last_bit r.word))
    (record { word = r.word; place = r.place + 1 })
    (record { word = r.word + 1; place = 6 })

-- row i of the table
unfoldable pub row : ℕ → Row
row zero = record { word = 1; place = 6 }
row (suc i) = following (row i)

-- five words by their numbers
unfoldable pub five : List ℕ → List ℕ → List ℕ → List ℕ → List ℕ → ℕ → List ℕ
five w1 w2 w3 w4 w5 word = get_or (w1 ∷ w2 ∷ w3 ∷ w4 ∷ w5 ∷ []) (word - 1) []

-- bit i of the 552 that a set's bytes have: the last three are zero
unfoldable pub set_bit : (ℕ → List ℕ) → ℕ → ℕ
set_bit words i = cond (ltb i 549) (bit (words (row i).word) (row i).place) 0

-- each of the 552 bits, for any five words; the table ends with the last authenticated bit of word 5
pub record EachBit : Type 0 where
  pub each_bit : (w1 w2 w3 w4 w5 : List ℕ) (i : ℕ) → i < 552 → bit (set_bytes w1 w2 w3 w4 w5) i ≡ set_bit (five w1 w2 w3 w4 w5) i
  pub table_ends : row 548 ≡ record { word = 5; place = 72 }
