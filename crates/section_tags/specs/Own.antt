-- A section's own tags, step by step: what a tag of a known outcome leaves.
-- proofs/Fields.antt shows that a field judged by these steps is `own_judged` (rules, Tags.antt).
use Rattle.std.specs.Prelude.{ℕ, ◌-◌, ◌*◌, ◌≤◌, ◌≡◌, cond, List, ◌++◌, eqb, length}
use Rattle.rules.specs.Tags.{Work, told, kept, tag_entry}
use Rattle.rules.specs.declared.Tag.{Tag}
use Rattle.rules.specs.State.{entry_length}

-- a tag of this outcome, of a chain with tags of `ms` bits: its record and its satellite's sets, and a tag that waits keeps a copy of its set
unfoldable pub settled : ℕ → ℕ → Tag → List ℕ → Work → Work
settled ms outcome t navdata w =
    cond (eqb outcome 5) (kept (tag_entry t navdata) (told ms outcome t navdata w)) (told ms outcome t navdata w)

-- after n fields, r tags wait where `count` did, an entry each, and each field has a record of 12 bytes
pub record Grows (w : Work) (count n r : ℕ) : Type 0 where
  pub places : r ≤ 256
  pub more : count ≤ r
  pub kept_long : length w.kept ≡ (r - count) * entry_length
  pub records_long : length w.records ≡ n * 12

-- the work of tags after work w is that of the same tags alone, behind what w has: u is v after w
pub record Behind (w v u : Work) : Type 0 where
  pub kept_is : u.kept ≡ w.kept ++ v.kept
  pub records_are : u.records ≡ w.records ++ v.records
  pub sets_are : u.sets ≡ v.sets
  pub arrivals_are : u.arrivals ≡ v.arrivals
  pub count_is : u.count ≡ v.count
