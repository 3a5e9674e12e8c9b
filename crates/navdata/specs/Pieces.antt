-- The regions that hold words, as the rules speak of them.
use Rattle.std.specs.Prelude.{ℕ, List}
use Rattle.rules.specs.State.{Nav}

-- the regions of words and of their stamps
abbrev pub nav : List ℕ → List ℕ → Nav
nav words stamps = record { words = words; stamps = stamps }
