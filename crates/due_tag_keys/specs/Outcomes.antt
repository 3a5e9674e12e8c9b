-- What becomes of each waiting tag, entry by entry: 0 where it is not due and waits, 1 authentic, 2 wrong (01, "Tag outcomes").
use Rattle.std.specs.Prelude.{ℕ, ◌<◌, ◌≡◌, cond, false, List, ltb, eqb, get_or}
use Rattle.rules.specs.Chain.{Held, key_slot}
use Rattle.rules.specs.Tags.{entry_at, entry_tag, entry_set, is_due, tag_matches}
use Rattle.rules.specs.declared.Chain.{Chain}
use Rattle.rules.specs.declared.Outcome.{Outcome}
use Rattle.rules.specs.declared.Outcome.TheVariants.{Agrees, Wrong, NoUsableSet, NotAllowed, Waits, SequenceUnfit, NoPlace, Lost}

-- the number of what a waiting tag is found to be: its outcome's, and 0 where it still waits
abbrev pub due_number : Outcome → ℕ
due_number Agrees = 1
due_number Wrong = 2
due_number NoUsableSet = 3
due_number NotAllowed = 4
due_number Waits = 0
due_number SequenceUnfit = 6
due_number NoPlace = 7
due_number Lost = 8

-- the slot of the key that an entry's tag uses
unfoldable pub entry_slot : Chain → List ℕ → ℕ
entry_slot c e = key_slot c (entry_tag e).time (entry_tag e).block (entry_tag e).adkd

-- one of the first n entries has its tag's key at this slot
pub record TagOfSlot (c : Chain) (waiting : List ℕ) (n slot : ℕ) : Type 0 where
  pub place : ℕ
  pub waits : place < n
  pub slot_is : entry_slot c (entry_at waiting place) ≡ slot

-- the outcome of an entry's tag under the key of its slot
unfoldable pub match_outcome : Chain → Held → List ℕ → ℕ
match_outcome c h e = cond (tag_matches c h false (entry_tag e) (entry_set e)) 1 2

-- the same where the tag is due, and 0 where it is not
unfoldable pub due_outcome : Chain → Held → List ℕ → ℕ
due_outcome c h e = cond (is_due c h (entry_tag e)) (match_outcome c h e) 0

-- the outcomes of the first n entries
abbrev pub Outcomes : Chain → Held → List ℕ → ℕ → List Outcome → Type 0
Outcomes c h waiting n outcomes = (k : ℕ) → k < n → due_number (get_or outcomes k Waits) ≡ due_outcome c h (entry_at waiting k)

-- those of the first n entries whose slot is m are judged, the others' outcomes are as before
abbrev pub JudgedAt : Chain → Held → List ℕ → ℕ → ℕ → List Outcome → List Outcome → Type 0
JudgedAt c h waiting n m before after =
    (k : ℕ) → k < n → due_number (get_or after k Waits)
    ≡ cond (eqb (entry_slot c (entry_at waiting k)) m) (match_outcome c h (entry_at waiting k)) (due_number (get_or before k Waits))

-- those of the first n entries whose slot is above m have their outcome, the others wait
abbrev pub JudgedAbove : Chain → Held → List ℕ → ℕ → ℕ → List Outcome → Type 0
JudgedAbove c h waiting n m outcomes =
    (k : ℕ) → k < n → due_number (get_or outcomes k Waits) ≡ cond (ltb m (entry_slot c (entry_at waiting k))) (due_outcome c h (entry_at waiting k)) 0
