-- The answer to a complete DSM-PKR: whether it stops the core.
use Rattle.std.specs.Prelude.{Bool, true, false, Result, Ok, Err}
use Rattle.rules.specs.declared.Refusal.{Refusal}
use Rattle.pkr.specs.declared.Renewal.{Renewal}
use Rattle.pkr.specs.declared.Renewal.TheVariants.{Held, Stops}

-- a message that is refused does not
abbrev pub stops : Result Renewal Refusal → Bool
stops (Ok Stops) = true
stops (Ok Held) = false
stops (Err _) = false
