-- What is read of a section, with the cursor after it (01, "MACK"; rules/specs/Mack.antt).
use Rattle.std.specs.Prelude.{ℕ, ◌+◌, List, replicate}
use Rattle.laws.specs.Lists.{splice}
use Rattle.rules.specs.Bits.{bits}
use Rattle.rules.specs.Mack.{block_at, field_at, field_tag, field_info, block_key, spare_bits}
use Rattle.rules.specs.declared.Chain.{Chain}
use Rattle.mack.specs.declared.Cursor.{Cursor}
use Rattle.mack.specs.declared.Field.{Field}
use Rattle.mack.specs.declared.Block.{Block}

-- the field after the bits used: "a tag of MS bits, PRN 8, ADKD 4, IOD 4"
abbrev pub field_taken : Chain → List ℕ → Cursor → Field
field_taken c m k =
    record { tag = bits m k.used c.ms; info = bits m (k.used + c.ms) 16; next = record { used = k.used + (c.ms + 16) } }

-- field j of the section, and the cursor at field j + 1
abbrev pub field_read : Chain → List ℕ → ℕ → Field
field_read c m j = record { tag = field_tag c m j; info = field_info c m j; next = record { used = field_at c (j + 1) } }

-- block b's key in the first bytes of 32, zeros after it, its spare bits, and the cursor at block b + 1
abbrev pub block_read : Chain → List ℕ → ℕ → Block
block_read c m b =
    record { key = splice (replicate 32 0) 0 (block_key c m b); spare = spare_bits c m b; next = record { used = block_at c (b + 1) } }
