-- How far along is each message (02, P9): "For each of the sixteen DSM IDs, give the number of blocks held and, once block 0 is present, the number still
-- missing. Without block 0 the total is called unknown." Blocks are held as the store stands: an ID's blocks that are over 3,600 s old count until its
-- next block comes, and a complete DSM was taken out (B65).
use Rattle.std.specs.Prelude.{ℕ, zero, suc, ◌-◌, cond, List, [], ◌∷◌, ◌++◌, get_or}
use Rattle.std.specs.Int.Count.{ones}
use Rattle.rules.specs.Gather.{total_of, marked, stored_block}
use Rattle.rules.specs.State.{Store}
use Rattle.rules.specs.declared.Progress.{Progress}
use Rattle.rules.specs.declared.Progress.TheVariants.{Unknown, Counted}

-- "the number of blocks held"
unfoldable pub blocks_held : Store → ℕ → ℕ
blocks_held s id = ones (get_or s.present id 0)

-- "once block 0 is present, the number still missing": of the total that block 0 names
unfoldable pub progress_of : Store → ℕ → Progress
progress_of s id =
    let held = blocks_held s id in
    cond (marked (get_or s.present id 0) 0) (Counted held (total_of (stored_block s.blocks id 0) - held)) (Unknown held)

-- stands in the place of a number of missing blocks where the total is unknown; no DSM has so many
abbrev pub unknown_total : ℕ
unknown_total = 255

-- a DSM ID's two numbers: blocks held, blocks missing
abbrev pub pair_of : Progress → List ℕ
pair_of (Unknown held) = held ∷ unknown_total ∷ []
pair_of (Counted held missing) = held ∷ missing ∷ []

-- the pairs of the first n DSM IDs
unfoldable pub pairs_of : Store → ℕ → List ℕ
pairs_of s zero = []
pairs_of s (suc n) = pairs_of s n ++ pair_of (progress_of s n)
