-- What a call gives, written from its number and the regions at exit.
use Rattle.std.specs.Prelude.{ℕ, List}
use Rattle.rules.specs.Calls.{Told, Subframe, SubframeTold}
use Rattle.rules.specs.State.{State}

-- the answer's number and the state that the call leaves
abbrev pub told : ℕ → State → Told
told n s = record { code = n; state = s }

-- the two numbers, the count of tag records, the state and the record area that the call leaves
abbrev pub subframe_told : ℕ → ℕ → ℕ → State → List ℕ → SubframeTold
subframe_told hkroot mack count s area = record { hkroot = hkroot; mack = mack; count = count; state = s; area = area }

-- what a sub-frame brings
abbrev pub subframe : ℕ → ℕ → ℕ → List ℕ → Subframe
subframe prn time marks bytes = record { prn = prn; time = time; marks = marks; bytes = bytes }
