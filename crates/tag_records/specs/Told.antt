-- What lent regions are after a tag was told its outcome, and after the work of several tags.
use Rattle.std.specs.Prelude.{ℕ, ◌-◌, ◌*◌, ◌≤◌, ◌≡◌, List, [], ◌++◌, length}
use Rattle.laws.specs.Lists.{splice}
use Rattle.rules.specs.Tags.{Work, tag_record, record_issue}
use Rattle.rules.specs.State.{entry_length}
use Rattle.rules.specs.declared.Tag.{Tag}

-- no record yet, and `count` entries that stay elsewhere
abbrev pub start : ℕ → List ℕ → List ℕ → Work
start count sets arrivals = record { kept = []; count = count; sets = sets; arrivals = arrivals; records = [] }

-- the work of a tag, v, after work w: the entries that stay are as they were
abbrev pub after : Work → Work → Work
after w v = record { kept = w.kept; count = w.count; sets = v.sets; arrivals = v.arrivals; records = w.records ++ v.records }

-- What a tag's outcome r is and what it leaves of the sets, by work w: its record is of this outcome.
pub record Finds (w : Work) (t : Tag) (navdata sets' arrivals' : List ℕ) (r : ℕ) : Type 0 where
  pub sets : sets' ≡ w.sets
  pub arrivals : arrivals' ≡ w.arrivals
  pub record_is : tag_record r t (record_issue r navdata) ≡ w.records

-- What lent regions are after a tag's outcome, work w: its record lies from place `at` of the area on.
pub record Tells (w : Work) (at : ℕ) (area sets' arrivals' area' : List ℕ) : Type 0 where
  pub sets : sets' ≡ w.sets
  pub arrivals : arrivals' ≡ w.arrivals
  pub records : area' ≡ splice area at w.records

-- What lent regions are after work w, if they were `waiting` and `area` before it: its entries lie from place `kept` on, its records from
-- place `told` on, and `r` is the count of entries that stay.
pub record Leaves (w : Work) (kept told : ℕ) (waiting area waiting' sets' arrivals' area' : List ℕ) (r : ℕ) : Type 0 where
  pub entries : waiting' ≡ splice waiting (kept * entry_length) w.kept
  pub sets : sets' ≡ w.sets
  pub arrivals : arrivals' ≡ w.arrivals
  pub records : area' ≡ splice area (told * 12) w.records
  pub count : r ≡ w.count

-- of n entries, r stay an entry each, and the others have a record of 12 bytes each
pub record Counts (w : Work) (n r : ℕ) : Type 0 where
  pub few : r ≤ n
  pub kept_long : length w.kept ≡ r * entry_length
  pub records_long : length w.records ≡ (n - r) * 12
