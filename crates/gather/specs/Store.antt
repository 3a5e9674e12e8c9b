-- The lent store and the answer of `gather`, read as 01's number, the store and the complete DSM.
use Rattle.std.specs.Prelude.{List, [], ℕ, ◌*◌, ◌≤◌}
use Rattle.laws.specs.Lists.{part}
use Rattle.rules.specs.State.{Store}
use Rattle.rules.specs.Gather as Rule
use Rattle.gather.specs.declared.Gathered.{Gathered}
use Rattle.gather.specs.declared.Gathered.TheVariants.{Stored, Complete, Refused}

-- the four regions as the store of the rules
abbrev pub store : List ℕ → List ℕ → List ℕ → List ℕ → Store
store blocks headers present since = record { blocks = blocks; headers = headers; present = present; since = since }

-- an answer with the store that it leaves: 01's number, and the DSM where it is complete, whose bytes still stand in the blocks of its ID
abbrev pub told : Gathered → Store → ℕ → Rule.Gathered
told Stored s id = record { code = 0; store = s; dsm = [] }
told (Complete n) s id = record { code = 0; store = s; dsm = part s.blocks (id * 208) n }
told Refused s id = record { code = 6; store = s; dsm = [] }

-- a complete DSM has 7 to 16 blocks of 13 bytes
abbrev pub Sized : Gathered → Type 0
Sized Stored = Unit {0}
Sized (Complete n) = (91 ≤ n) × (n ≤ 208)
Sized Refused = Unit {0}
