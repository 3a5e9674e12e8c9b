-- A reader over a lent MACK section: what is taken off, and the reader after it (01, "MACK"). A section has 60 bytes, 480 bits.
use Rattle.std.specs.Prelude.{ℕ, ◌+◌, ◌*◌, ◌≤◌, List, replicate}
use Rattle.laws.specs.Lists.{splice}
use Rattle.rules.specs.Bits.{bits, bytes_at}
use Rattle.mack_reader.specs.declared.Reader.{Reader}
use Rattle.mack_reader.specs.declared.Read.{Read}
use Rattle.mack_reader.specs.declared.KeyRead.{KeyRead}
use Rattle.mack_reader.specs.declared.Field.{Field}
use Rattle.mack_reader.specs.declared.Block.{Block}

-- ---- by a reader

-- the reader n bits on: the same section
abbrev pub after : Reader → ℕ → Reader
after r n = record { section = r.section; used = r.used + n }

-- the next n bits as a number
abbrev pub taken : Reader → ℕ → Read
taken r n = record { value = bits r.section.now r.used n; next = after r n }

-- n bits are left of the section
abbrev pub Left : Reader → ℕ → Type 0
Left r n = (r.used + n ≤ 480) × (n ≤ 56)

-- the next n bytes, in the first of 32; zeros follow
abbrev pub key_taken : Reader → ℕ → KeyRead
key_taken r n = record { key = splice (replicate 32 0) 0 (bytes_at r.section.now r.used n); next = after r (8 * n) }

-- n bytes are left of the section, and a key has room for them
abbrev pub KeyLeft : Reader → ℕ → Type 0
KeyLeft r n = (r.used + 8 * n ≤ 480) × (n ≤ 32)

-- ---- by a section and numbers

-- "A field is a tag of MS bits, PRN 8, ADKD 4, IOD 4."
abbrev pub field_taken : List ℕ → ℕ → ℕ → Field
field_taken m used ms = record { tag = bits m used ms; info = bits m (used + ms) 16; used = used + ms + 16 }

-- a whole field is left
abbrev pub FieldLeft : ℕ → ℕ → Type 0
FieldLeft used ms = (used + ms + 16 ≤ 480) × (ms ≤ 40)

-- "fields, the key, then zero bits": the key's bytes in the first of 32, zeros follow; and the bits after it
abbrev pub block_taken : List ℕ → ℕ → ℕ → ℕ → ℕ → Block
block_taken m used fields width spare =
    record {
      key = splice (replicate 32 0) 0 (bytes_at m (used + fields) width);
      spare = bits m (used + fields + 8 * width) spare;
      used = used + fields + 8 * width + spare;
    }

-- a whole block is left
abbrev pub BlockLeft : ℕ → ℕ → ℕ → ℕ → Type 0
BlockLeft used fields width spare = (used + fields + 8 * width + spare ≤ 480) × ((width ≤ 32) × (spare ≤ 56))
