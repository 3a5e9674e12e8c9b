-- The outcome of a tag that agrees with its set, as a number: "A set is called authentic at 40 bits; until then a matching tag is outcome 9" (02, P4).
use Rattle.std.specs.Prelude.{ℕ}
use Rattle.authentic_sets.specs.declared.Agreement.{Agreement}
use Rattle.authentic_sets.specs.declared.Agreement.TheVariants.{Authentic, Candidate}

abbrev pub agreement_number : Agreement → ℕ
agreement_number Authentic = 1
agreement_number Candidate = 9
