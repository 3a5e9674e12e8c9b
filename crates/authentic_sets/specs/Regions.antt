-- The two regions of authentic sets as one record of the state.
use Rattle.std.specs.Prelude.{ℕ, List}
use Rattle.rules.specs.State.{Auth}

abbrev pub auth : List ℕ → List ℕ → Auth
auth sets arrivals = record { sets = sets; arrivals = arrivals }
