-- What P4 of 02 promises beside its rules: with tags of 40 bits every answer is as before, and what holds of tags of every size. proofs/Sizes.antt shows it.
use Rattle.std.specs.Prelude.{ℕ, zero, suc, ◌-◌, ◌*◌, ◌≤◌, ◌<◌, ◌≡◌, ◌≢◌, true, false, cond, List, [], ◌++◌, ltb, eqb, length, get_or, set}
use Rattle.laws.specs.Lists.{part, splice}
use Rattle.rules.specs.Calls.{Start, start_call, chain_of, tags_worked}
use Rattle.rules.specs.Candidates.{SetPair, later_stamp, latest_with, on_set, authentic_bits, agreed, pair_at, candidates_cleared}
use Rattle.rules.specs.Chain.{Held}
use Rattle.rules.specs.Log.{Call, ran_from}
use Rattle.rules.specs.Navdata.{set_of}
use Rattle.rules.specs.Received.{field_lost, lost_tag}
use Rattle.rules.specs.State.{State, Nav, Auth, prn_valid, waiting_count, satellites, sets_length, arrivals_length, waiting_length, copy_length}
use Rattle.rules.specs.Tags.{Work, Section, names_satellite, told, kept, tag_record, record_issue, entry_at, entry_tag, entry_set, is_due, tag_matches, tag_entry, own_tag, own_outcome}
use Rattle.rules.specs.Times.{stamp_of, time_valid}
use Rattle.rules.specs.declared.Chain.{Chain}
use Rattle.rules.specs.declared.Tag.{Tag}

-- ---- the tags of a section as they were before this request

-- a tag's record, and for outcome 1 its set: 01, "Outcome 1 replaces the satellite's authentic set unless that set's tag came later."
unfoldable pub told_before : ℕ → Tag → List ℕ → Work → Work
told_before outcome t navdata w =
    let later = ltb (stamp_of t.time) (get_or w.arrivals (t.prn - 1) 0) in
    record {
      kept = w.kept;
      count = w.count;
      sets = cond (eqb outcome 1) (cond later w.sets (splice w.sets ((t.prn - 1) * copy_length) navdata)) w.sets;
      arrivals = cond (eqb outcome 1) (cond later w.arrivals (set w.arrivals (t.prn - 1) (stamp_of t.time))) w.arrivals;
      records = w.records ++ tag_record outcome t (record_issue outcome navdata);
    }

-- `due_judged`, `dues_judged`, `field_judged`, `fields_judged` and `tags_worked` with it in place of `told`
unfoldable pub due_before : Chain → Held → List ℕ → Work → Work
due_before c h e w =
    let t = entry_tag e in
    cond (is_due c h t) (told_before (cond (tag_matches c h false t (entry_set e)) 1 2) t (entry_set e) w) (kept e w)

unfoldable pub dues_before : Chain → Held → List ℕ → ℕ → Work → Work
dues_before c h waiting zero w = w
dues_before c h waiting (suc n) w = due_before c h (entry_at waiting n) (dues_before c h waiting n w)

unfoldable pub own_before : List ℕ → Nav → Chain → Held → Section → ℕ → Work → Work
own_before config nav c h x j w =
    let t = own_tag c x j in
    let navdata = set_of nav.words t.prn in
    let outcome = own_outcome config nav c h x j w.count in
    let told-w = told_before outcome t navdata w in
    cond (eqb outcome 5) (kept (tag_entry t navdata) told-w) told-w

unfoldable pub field_before : List ℕ → Nav → Chain → Held → Section → ℕ → ℕ → Work → Work
field_before config nav c h x marks j w =
    cond (field_lost config c x.time marks j) (told_before 8 (lost_tag c x marks j) [] w) (own_before config nav c h x j w)

unfoldable pub fields_before : List ℕ → Nav → Chain → Held → Section → ℕ → ℕ → Work → Work
fields_before config nav c h x marks zero w = w
fields_before config nav c h x marks (suc j) w = field_before config nav c h x marks j (fields_before config nav c h x marks j w)

unfoldable pub tags_before : State → Held → Section → ℕ → Work
tags_before s h x marks =
    let c = chain_of s in
    fields_before s.config s.nav c h x marks (c.nmack * c.fields)
    (dues_before c h s.tesla.waiting (waiting_count s.tesla.numbers)
    (record { kept = []; count = 0; sets = s.auth.sets; arrivals = s.auth.arrivals; records = [] }))

-- ---- candidates

-- no satellite has one: as a start, a new chain and a drop leave it
abbrev pub NoCandidates : List ℕ → Type 0
NoCandidates arrivals = (k : ℕ) → satellites ≤ k → k < 3 * satellites → get_or arrivals k 0 ≡ 0

-- each satellite that has one has fewer than 40 bits on it
abbrev pub CandidatesShort : Auth → Type 0
CandidatesShort a =
    (prn : ℕ) → prn_valid prn ≡ true → (pair_at a.sets a.arrivals prn).latest ≢ 0 → (pair_at a.sets a.arrivals prn).total < authentic_bits

-- ---- what is shown

-- a section is judged in this state with tags of 40 bits: there is no candidate, and what waits names a satellite and a time
pub record FortyBitTags (s : State) (x : Section) : Type 0 where
  pub size : (chain_of s).ms ≡ 40
  pub sets_size : length s.auth.sets ≡ sets_length
  pub arrivals_size : length s.auth.arrivals ≡ arrivals_length
  pub none : NoCandidates s.auth.arrivals
  pub waiting_size : length s.tesla.waiting ≡ waiting_length
  pub named : (k : ℕ) → k < waiting_count s.tesla.numbers → names_satellite (entry_tag (entry_at s.tesla.waiting k)) ≡ true
  pub time : time_valid x.time ≡ true

pub record TagSizes : Type 0 where
  -- with tags of 40 bits the tags of a section, due ones and its own, leave what they left before: records, sets, stamps and tags that wait, byte for byte
  pub wide : (s : State) (h : Held) (x : Section) (marks : ℕ) → FortyBitTags s x → tags_worked s h x marks ≡ tags_before s h x marks
  -- there is no candidate then
  pub wide_none : (s : State) (h : Held) (x : Section) (marks : ℕ) → FortyBitTags s x → NoCandidates (tags_worked s h x marks).arrivals
  -- nor does a verdict clear one
  pub none_cleared : (a : Auth) → length a.arrivals ≡ arrivals_length → NoCandidates a.arrivals → candidates_cleared a ≡ a
  -- "until then a matching tag is outcome 9": what was told before stays told
  pub stays_told : (ms found : ℕ) (t : Tag) (navdata : List ℕ) (w : Work) → part (told ms found t navdata w).records 0 (length w.records) ≡ w.records
  -- "A match on the authentic set's bits is outcome 1 and touches no candidate.": the set's time moves on (B17)
  pub on_set_law : (ms stamp : ℕ) (navdata : List ℕ) (p : SetPair) → on_set navdata p ≡ true → (agreed ms stamp navdata p).outcome ≡ 1
  pub moves_on : (ms stamp : ℕ) (navdata : List ℕ) (p : SetPair) → on_set navdata p ≡ true → (agreed ms stamp navdata p).pair.stamp ≡ later_stamp p.stamp stamp
  pub untouched : (ms stamp : ℕ) (navdata : List ℕ) (p : SetPair) → on_set navdata p ≡ true → (agreed ms stamp navdata p).pair.candidate ≡ p.candidate
  pub untouched_latest : (ms stamp : ℕ) (navdata : List ℕ) (p : SetPair) → on_set navdata p ≡ true → (agreed ms stamp navdata p).pair.latest ≡ p.latest
  pub untouched_total : (ms stamp : ℕ) (navdata : List ℕ) (p : SetPair) → on_set navdata p ≡ true → (agreed ms stamp navdata p).pair.total ≡ p.total
  -- "or goes if the old set's tag came later than that one": a newer authentic set is not replaced, and the time of one never goes back
  pub newer_stays : (ms stamp : ℕ) (navdata : List ℕ) (p : SetPair) → latest_with stamp navdata p < p.stamp → (agreed ms stamp navdata p).pair.set ≡ p.set
  pub newest : (ms stamp : ℕ) (navdata : List ℕ) (p : SetPair) → p.stamp ≤ (agreed ms stamp navdata p).pair.stamp
  -- a candidate has fewer than 40 bits: after every list of calls, and a tag that agrees leaves it so
  pub short : (s : State) (x : Start) → (start_call s x).code ≡ 0 → (calls : List Call) → CandidatesShort (ran_from s x calls).state.auth
  pub still_short : (ms stamp : ℕ) (navdata : List ℕ) (p : SetPair) → p.total < authentic_bits → (agreed ms stamp navdata p).pair.total < authentic_bits
