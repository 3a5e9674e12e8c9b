-- The sweep of the waiting tags, once it is known what becomes of each: number 0 says that a tag is not due and stays. It is the rule
-- `dues_judged` (rules, Tags.antt) with its outcomes read from a list; proofs/Judged.antt shows that they are the same.
use Rattle.std.specs.Prelude.{ℕ, zero, suc, List, get_or}
use Rattle.rules.specs.Tags.{Work, told, kept, entry_at, entry_tag, entry_set}
use Rattle.rules.specs.declared.Outcome.{Outcome}
use Rattle.rules.specs.declared.Outcome.TheVariants.{Waits}
use Rattle.due_tag_keys.specs.Outcomes.{due_number}

-- an entry whose outcome has this number, of a chain with tags of `ms` bits
unfoldable pub swept_one : ℕ → ℕ → List ℕ → Work → Work
swept_one ms zero e w = kept e w
swept_one ms (suc o) e w = told ms (suc o) (entry_tag e) (entry_set e) w

-- the first n entries, in arrival order
unfoldable pub swept : ℕ → List Outcome → List ℕ → ℕ → Work → Work
swept ms outcomes waiting zero w = w
swept ms outcomes waiting (suc n) w = swept_one ms (due_number (get_or outcomes n Waits)) (entry_at waiting n) (swept ms outcomes waiting n w)
