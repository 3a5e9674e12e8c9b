-- The ranges of a chain's numbers with which a section can be read: its blocks hold their fields, and the key after them.
use Rattle.std.specs.Prelude.{ℕ, ◌+◌, ◌-◌, ◌*◌, ◌≤◌}
use Rattle.rules.specs.Kroot.{block_bits}
use Rattle.rules.specs.declared.Chain.{Chain}

-- bits of a block that follow its fields
abbrev pub rest_bits : Chain → ℕ
rest_bits c = block_bits c.nmack - c.fields * (c.ms + 16)

-- a block holds its fields
pub record FieldsFit (c : Chain) : Type 0 where
  pub nmack_low : 1 ≤ c.nmack
  pub nmack_high : c.nmack ≤ 3
  pub ms_high : c.ms ≤ 40
  pub fields_fit : c.fields * (c.ms + 16) ≤ block_bits c.nmack

-- and the key after them; what is left is a number of at most 56 bits
pub record KeysFit (c : Chain) : Type 0 where
  pub fields : FieldsFit c
  pub width_high : c.width ≤ 32
  pub key_fits : 8 * c.width ≤ rest_bits c
  pub few_spare : rest_bits c - 8 * c.width ≤ 56
