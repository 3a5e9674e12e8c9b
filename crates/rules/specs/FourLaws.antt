-- What P5 of 02 promises beside its answer (Four.antt). proofs/Four.antt and proofs/Sound.antt show it.
use Rattle.std.specs.Prelude.{ℕ, zero, suc, ◌+◌, ◌-◌, ◌≤◌, ◌≡◌, ◌≢◌, Bool, true, false, cond, ◌&&◌, List, eqb, leb, replicate}
use Rattle.rules.specs.Calls.{Start, start_call, set_read, auth_stamp}
use Rattle.rules.specs.Four.{age_at, recent_count, four_met}
use Rattle.rules.specs.Log.{Call, ran_from}
use Rattle.rules.specs.State.{State, last_subframe, prn_valid, satellites, set_shaped, copy_length}

-- a read of this satellite gives a set, and its tag came within so many sub-frames of the last one noted
abbrev pub read_recent : State → ℕ → ℕ → Bool
read_recent s limit prn =
    let r = set_read s prn (replicate copy_length 0) in
    eqb r.code 0 && leb (age_at (last_subframe s.clocks - 1) r.time) limit

-- of how many of E01 to E`n`
abbrev pub reads_recent : State → ℕ → ℕ → ℕ
reads_recent s limit zero = 0
reads_recent s limit (suc n) = reads_recent s limit n + cond (read_recent s limit (suc n)) 1 0

pub record FourSatellites : Type 0 where
  -- "Answer as soon as the fourth is met, and show that the answer equals the count over all 36.": four among the first n are four
  pub soon : (s : State) (limit n : ℕ) → n ≤ satellites → last_subframe s.clocks ≢ 0
      → 4 ≤ recent_count (last_subframe s.clocks) limit s.auth.arrivals n → four_met s limit ≡ true
  -- "before any is noted the answer is no."
  pub none : (s : State) (limit : ℕ) → last_subframe s.clocks ≡ 0 → four_met s limit ≡ false
  -- it says what reads of all 36 satellites say: no other set counts, and none that a read gives is left out
  pub by_reads : (s : State) (limit : ℕ) → set_shaped s ≡ true
      → recent_count (last_subframe s.clocks) limit s.auth.arrivals satellites ≡ reads_recent s limit satellites
  -- what is met within a limit is met within a wider one
  pub wider : (s : State) (limit more : ℕ) → limit ≤ more → four_met s limit ≡ true → four_met s more ≡ true
  -- after every list of calls no authentic set's tag is later than the last noted sub-frame, so that each has the age that its time says
  pub past : (s : State) (x : Start) → (start_call s x).code ≡ 0 → (calls : List Call) (prn : ℕ) → prn_valid prn ≡ true
      → auth_stamp (ran_from s x calls).state.auth prn ≤ last_subframe (ran_from s x calls).state.clocks
