-- MACK sections: fields, keys and spare bits (01, "MACK"; 000, 4).
-- A section is 60 bytes in NMACK blocks; a block is its fields, the key, then zero bits. One definition serves every key and tag width.
use Rattle.std.specs.Prelude.{ℕ, zero, suc, ◌+◌, ◌-◌, ◌*◌, ◌/◌, ◌%◌, Bool, not, ◌||◌, List, [], ◌∷◌, ltb}
use Rattle.laws.specs.Refusal.{Check, refuse, first_refusal, unless, neb}
use Rattle.rules.specs.Bits.{bits, bytes_at}
use Rattle.rules.specs.Chain.{Held, key_fits, higher, sent_slot}
use Rattle.rules.specs.Kroot.{block_bits}
use Rattle.rules.specs.declared.Chain.{Chain}

-- the bit at which block b (from 1) begins
unfoldable pub block_at : Chain → ℕ → ℕ
block_at c b = (b - 1) * block_bits c.nmack

-- the bit at which field j of the section begins: j counts from 0 through all blocks
unfoldable pub field_at : Chain → ℕ → ℕ
field_at c j = block_at c (j / c.fields + 1) + (j % c.fields) * (c.ms + 16)

-- field j: "A field is a tag of MS bits, PRN 8, ADKD 4, IOD 4."
unfoldable pub field_tag : Chain → List ℕ → ℕ → ℕ
field_tag c m j = bits m (field_at c j) c.ms

unfoldable pub field_info : Chain → List ℕ → ℕ → ℕ
field_info c m j = bits m (field_at c j + c.ms) 16

-- "The first field of the section is tag0, MACSEQ 12, IOD 4."
unfoldable pub macseq_of : Chain → List ℕ → ℕ
macseq_of c m = bits m c.ms 12

-- the bit at which block b's key begins, its bytes, and the spare bits after it as a number
unfoldable pub key_at : Chain → ℕ → ℕ
key_at c b = block_at c b + c.fields * (c.ms + 16)

unfoldable pub block_key : Chain → List ℕ → ℕ → List ℕ
block_key c m b = bytes_at m (key_at c b) c.width

unfoldable pub spare_bits : Chain → List ℕ → ℕ → ℕ
spare_bits c m b = bits m (key_at c b + 8 * c.width) (block_bits c.nmack - c.fields * (c.ms + 16) - 8 * c.width)

-- ---- the keys of a section

-- "slot over 1,000,000 past the key held when the section came"
unfoldable pub too_far : ℕ → ℕ → Bool
too_far first slot = ltb (first + 1000000) slot

-- block b against the highest key proved so far: "block by block 13, 12"
unfoldable pub block_checks : Chain → ℕ → ℕ → ℕ → List ℕ → Held → ℕ → List Check
block_checks c g prn first m h b =
    refuse (too_far first (sent_slot c g b prn)) 13
    ∷ refuse (not (key_fits c h (sent_slot c g b prn) (block_key c m b)) || neb (spare_bits c m b) 0) 12
    ∷ []

-- what the keys of the first blocks give: a number, and the highest key proved
pub record Proved : Type 0 where
  pub code : ℕ
  pub held : Held

-- "Blocks go in order, each against the highest key proved so far"; "The first failing block refuses the whole section."
unfoldable pub block_proved : Chain → ℕ → ℕ → ℕ → List ℕ → Held → ℕ → Proved
block_proved c g prn first m h b =
    let code = first_refusal (block_checks c g prn first m h b) in
    record { code = code; held = unless code (higher h (sent_slot c g b prn) (block_key c m b)) h }

unfoldable pub keys_proved : Chain → ℕ → ℕ → List ℕ → Held → ℕ → Proved
keys_proved c g prn m h zero = record { code = 0; held = h }
keys_proved c g prn m h (suc b) =
    let p = keys_proved c g prn m h b in
    unless p.code (block_proved c g prn h.slot m p.held (suc b)) p
