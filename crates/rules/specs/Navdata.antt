-- I/NAV words and navigation sets (01, "A word is 16 bytes, type in bits 0 to 5 .."; layouts of the OS SIS ICD).
use Rattle.std.specs.Prelude.{ℕ, ◌+◌, ◌-◌, ◌*◌, Bool, List, [], ◌∷◌, ◌++◌, eqb, get_or, set}
use Rattle.laws.specs.Lists.{part, splice}
use Rattle.rules.specs.Bits.{bits, bit_list, packed, all_of, within}
use Rattle.rules.specs.State.{Nav}

-- type in bits 0 to 5
unfoldable pub word_type : List ℕ → ℕ
word_type w = bits w 0 6

-- the SVID of word 4: bits 16 to 21 (OS SIS ICD; A22)
unfoldable pub svid_of : List ℕ → ℕ
svid_of w = bits w 16 6

-- "IODnav is bits 6 to 15 of words 1 to 4."
unfoldable pub word_issue : List ℕ → ℕ
word_issue w = bits w 6 10

-- "Types 1 to 5 are held per satellite"
unfoldable pub held_type : ℕ → Bool
held_type kind = within 1 5 kind

-- the place of a satellite's word of a type
unfoldable pub word_place : ℕ → ℕ → ℕ
word_place prn kind = (prn - 1) * 5 + (kind - 1)

unfoldable pub word_at : List ℕ → ℕ → ℕ → List ℕ
word_at words prn kind = part words (word_place prn kind * 16) 16

-- a word in its place, with the stamp of its sub-frame
unfoldable pub word_stored : Nav → ℕ → ℕ → List ℕ → ℕ → Nav
word_stored n prn kind w stamp =
    record { words = splice n.words (word_place prn kind * 16) w; stamps = set n.stamps (word_place prn kind) stamp }

-- "Authenticated are bits 6 to 125 of words 1, 2, 4, bits 6 to 127 of word 3, bits 6 to 72 of word 5: 549 bits"
unfoldable pub set_bits : List ℕ → List ℕ → List ℕ → List ℕ → List ℕ → List ℕ
set_bits w1 w2 w3 w4 w5 = bit_list w1 6 120 ++ (bit_list w2 6 120 ++ (bit_list w3 6 122 ++ (bit_list w4 6 120 ++ bit_list w5 6 67)))

-- ".. 69 bytes with three zero bits"
unfoldable pub set_bytes : List ℕ → List ℕ → List ℕ → List ℕ → List ℕ → List ℕ
set_bytes w1 w2 w3 w4 w5 = packed (set_bits w1 w2 w3 w4 w5) 69

-- the set of a satellite's held words
unfoldable pub set_of : List ℕ → ℕ → List ℕ
set_of words prn = set_bytes (word_at words prn 1) (word_at words prn 2) (word_at words prn 3) (word_at words prn 4) (word_at words prn 5)

-- the IODnav of a set: that of its word 1
unfoldable pub set_issue : List ℕ → ℕ
set_issue s = bits s 0 10

-- a word of a type that was answered 0, and the stamp of its sub-frame: 0 where none came
pub record Came : Type 0 where
  pub bytes : List ℕ
  pub stamp : ℕ

unfoldable pub word_came : Nav → ℕ → ℕ → Came
word_came n prn kind = record { bytes = word_at n.words prn kind; stamp = get_or n.stamps (word_place prn kind) 0 }

-- a word is there, and "came in earlier sub-frames" than t (A19)
unfoldable pub came_before : ℕ → Came → Bool
came_before t w = within 1 t w.stamp

-- words 1 to 4 have "one IODnav"
unfoldable pub one_issue : Came → Came → Came → Came → Bool
one_issue w1 w2 w3 w4 =
    all_of
    (eqb (word_issue w2.bytes) (word_issue w1.bytes)
    ∷ eqb (word_issue w3.bytes) (word_issue w1.bytes)
    ∷ eqb (word_issue w4.bytes) (word_issue w1.bytes)
    ∷ [])

-- "A set is usable for a section if it is whole, has one IODnav, and all five words came in earlier sub-frames"
unfoldable pub set_usable : ℕ → Came → Came → Came → Came → Came → Bool
set_usable t w1 w2 w3 w4 w5 =
    all_of
    (came_before t w1 ∷ came_before t w2 ∷ came_before t w3 ∷ came_before t w4 ∷ came_before t w5 ∷ one_issue w1 w2 w3 w4 ∷ [])

-- the satellite's held words, for a section at t
unfoldable pub usable : Nav → ℕ → ℕ → Bool
usable n prn t = set_usable t (word_came n prn 1) (word_came n prn 2) (word_came n prn 3) (word_came n prn 4) (word_came n prn 5)
