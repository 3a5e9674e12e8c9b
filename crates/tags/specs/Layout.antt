-- The ranges of a chain's numbers that the fields of a MACK section need, and a section as a record of the rules.
-- proofs/Places.antt shows that a chain of accepted parameters is laid out so.
use Rattle.std.specs.Prelude.{ℕ, ◌*◌, ◌≤◌, List}
use Rattle.rules.specs.Tags.{Section}
use Rattle.rules.specs.declared.Chain.{Chain}
use Rattle.mack.specs.Layout.{FieldsFit}
use Rattle.tags.specs.declared.Section.{Section as Sent}

-- a block has a field and holds all of its fields, and a section has at most 14
pub record Laid (c : Chain) : Type 0 where
  pub fit : FieldsFit c
  pub fields_low : 1 ≤ c.fields
  pub few : c.nmack * c.fields ≤ 14

-- what a section brings
abbrev pub section : ℕ → ℕ → ℕ → List ℕ → Section
section prn time status mack = record { prn = prn; time = time; status = status; mack = mack }

-- what a section brings, of one that is passed as such: its bytes are read as they are, the marks say which of them came
abbrev pub section_of : Sent → Section
section_of x = section x.prn x.time x.status x.mack.now
