-- The three regions of the held TESLA key and the waiting tags as one record of the state.
use Rattle.std.specs.Prelude.{List, ℕ}
use Rattle.rules.specs.State.{Tesla}

abbrev pub tesla : List ℕ → List ℕ → List ℕ → Tesla
tesla numbers heldkey waiting = record { numbers = numbers; key = heldkey; waiting = waiting }
