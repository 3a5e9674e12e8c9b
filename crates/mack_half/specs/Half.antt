-- The MACK half of a sub-frame: what it gives, and a state whose held key, waiting tags and authentic sets may be others.
use Rattle.std.specs.Prelude.{ℕ, Result, Ok, Err, ◌+◌, ◌*◌, ◌≤◌, ◌<◌, ◌≡◌, true, List, length}
use Rattle.laws.specs.Lists.{splice}
use Rattle.rules.specs.Calls.{MackDone}
use Rattle.rules.specs.Chain.{sent_slot, key_slot}
use Rattle.rules.specs.Received.{key_came}
use Rattle.rules.specs.State.{State, Tesla, Auth, with_tesla, with_auth}
use Rattle.rules.specs.Tags.{entry_at}
use Rattle.rules.specs.declared.Chain.{Chain}
use Rattle.rules.specs.declared.Refusal.{Refusal}
use Rattle.chain.specs.declared.Way.{Way}
use Rattle.due_tag_keys.specs.Outcomes.{entry_slot, TagOfSlot}

-- the held key and the waiting tags, as three regions
abbrev pub tesla : List ℕ → List ℕ → List ℕ → Tesla
tesla numbers heldkey waiting = record { numbers = numbers; key = heldkey; waiting = waiting }

abbrev pub judging : State → Tesla → Auth → State
judging s tesla auth = with_auth (with_tesla s tesla) auth

-- how many records the half wrote: none where it is refused
abbrev pub records_written : Result ℕ Refusal → ℕ
records_written (Ok n) = n
records_written (Err _) = 0

-- the number, the count of records, the state and the record area are those of m: the records stand at the front of the area, the bytes
-- past them stay
pub record Gives (m : MackDone) (code count : ℕ) (s : State) (area area' : List ℕ) : Type 0 where
  pub code_is : code ≡ m.code
  pub count_is : length m.records ≡ count * 12
  pub state_is : s ≡ m.state
  pub area_is : area' ≡ splice area 0 m.records

-- Keys that were kept while a section's keys were proved, so that no way is walked twice: slot `first` was held before, and the highest key proved has
-- this slot
pub record WalkedOnce (c : Chain) (waiting : List ℕ) (n first time prn marks code slot : ℕ) (w : Way) : Type 0 where
  -- after a long way, up to the last block's key: where one of the first n waiting tags falls due, a key was kept on it that is a tag's, and no tag that
  -- falls due has its slot above that
  pub due : slot ≡ sent_slot c time c.nmack prn → first + 256 < slot → (k : ℕ) → k < n → first < entry_slot c (entry_at waiting k) → entry_slot c (entry_at waiting k) ≤ slot
      → (entry_slot c (entry_at waiting k) ≤ w.near) × TagOfSlot c waiting n w.near
  -- the key that block 1 sent is kept; so is the key of the last block's tags, unless the way up was long
  pub own : code ≡ 0 → key_came c marks 1 ≡ true → w.low ≡ sent_slot c time 1 prn
  pub last : code ≡ 0 → key_came c marks 1 ≡ true → sent_slot c time c.nmack prn ≤ first + 256 → sent_slot c time 1 prn ≤ key_slot c time c.nmack 0 → key_slot c time c.nmack 0 ≤ slot
      → w.near ≡ key_slot c time c.nmack 0
