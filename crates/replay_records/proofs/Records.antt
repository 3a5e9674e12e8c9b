-- A record brings at most 270 tag records (A73), and they fit the area: 256 waiting tags and the 14 fields of a section, each with one record of 12
-- bytes at most. Assumes nothing.
use mathlib.Core.Path.{◌≡◌, refl, sym, subst}
use mathlib.Core.Bool.{Bool, true, false, cond, not, ◌||◌}
use mathlib.Core.Logic.{⊎_elim}
use mathlib.Core.List.{List, []}
use Prim.Native.Nat.{ℕ, zero, suc, ◌+◌, ◌*◌, ◌≤◌}
use native.Mathlib.Omega.{arith}
use lib.Dec.{eqb}
use lib.ListN.{length, get_or}
use borrow.Author.Tests.{eqb-true, not-false, not-true}
use Rattle.laws.specs.Refusal.{first_refusal, unless, neb}
use Rattle.laws.proofs.Refusal.{by_test, clear}
use Rattle.laws.proofs.Splice.{either}
use Rattle.laws.proofs.Tests.{and_left, and_right, neither}
use Rattle.rules.proofs.Bounds.{count_bound, ns_range}
use Rattle.rules.proofs.Choices.{by_number}
use Rattle.rules.proofs.TagRecords.{told_long}
use Rattle.section_checks.proofs.Forced.{chain_laid}
use Rattle.rules.specs.Calls.{Subframe, SubframeTold, MackDone, fields_of, hkroot_received, noted, chain_of, section_unfit, section_proved, tags_worked, mack_half, halves_done, subframe_checks, subframe_call}
use Rattle.rules.specs.Chain.{Held}
use Rattle.rules.specs.Gather.{hkroot_of, mack_of, header_of, status_of}
use Rattle.rules.specs.Kroot.{in_force, chain_contents}
use Rattle.rules.specs.Mack.{Proved}
use Rattle.rules.specs.Received.{field_came, field_lost, lost_tag, field_judged, fields_judged}
use Rattle.rules.specs.Replay.{Session, Answered, start_answered, word_answered, subframe_answered, verdict_answered, answered, kind_of, record_length, subframe_of}
use Rattle.rules.specs.State.{State, shaped, ns_of, waiting_count, area_length}
use Rattle.rules.specs.Navdata.{set_of}
use Rattle.rules.specs.Tags.{Section, Work, told, kept, tag_entry, entry_at, entry_tag, entry_set, is_due, tag_matches, due_judged, dues_judged, own_tag, own_outcome, own_judged}
use Rattle.rules.specs.declared.Chain.{Chain}
use Rattle.replay_answers.specs.Answers.{gave}
use Rattle.replay_records.specs.Written.{room}

-- ---- each tag has at most one record

kept_none : (e : List ℕ) (w : Work) → length (kept e w).records ≡ length w.records
unfolding kept
kept_none e w = refl

due_one : (c : Chain) (h : Held) (e : List ℕ) (w : Work) → length (due_judged c h e w).records ≤ length w.records + 12
unfolding due_judged
due_one c h e w =
    by_test (λ (v : Work). length v.records ≤ length w.records + 12) (is_due c h (entry_tag e)) (λ _. omega (arith, told_long c.ms (entry_tag e) (entry_set e) (cond (tag_matches c h false (entry_tag e) (entry_set e)) 1 2) w)) (λ _. omega (arith, kept_none e w))

dues_few : (c : Chain) (h : Held) (waiting : List ℕ) (n : ℕ) (w : Work) → length (dues_judged c h waiting n w).records ≤ length w.records + n * 12
unfolding dues_judged
dues_few c h waiting zero w = omega arith
dues_few c h waiting (suc n) w = omega (arith, dues_few c h waiting n w, due_one c h (entry_at waiting n) (dues_judged c h waiting n w))

own_one : (config : List ℕ) (s : State) (c : Chain) (h : Held) (x : Section) (j : ℕ) (w : Work)
    → length (own_judged config s.nav c h x j w).records ≤ length w.records + 12
unfolding own_judged
own_one config s c h x j w =
    let t = own_tag c x j in
    let n = set_of s.nav.words t.prn in
    let o = own_outcome config s.nav c h x j w.count in
    by_test (λ (v : Work). length v.records ≤ length w.records + 12) (eqb o 5) (λ _. omega (arith, told_long c.ms t n o w, kept_none (tag_entry t n) (told c.ms o t n w))) (λ _. omega (arith, told_long c.ms t n o w))

-- a lost field has one too
field_one : (config : List ℕ) (s : State) (c : Chain) (h : Held) (x : Section) (marks j : ℕ) (w : Work)
    → length (field_judged config s.nav c h x marks j w).records ≤ length w.records + 12
unfolding field_judged
field_one config s c h x marks j w =
    by_test (λ (v : Work). length v.records ≤ length w.records + 12) (field_lost config c x.time marks j) (λ _. omega (arith, told_long c.ms (lost_tag c x marks j) [] 8 w)) (λ _. own_one config s c h x j w)

judged_few : (config : List ℕ) (s : State) (c : Chain) (h : Held) (x : Section) (marks n : ℕ) (w : Work)
    → length (fields_judged config s.nav c h x marks n w).records ≤ length w.records + n * 12
unfolding fields_judged
judged_few config s c h x marks zero w = omega arith
judged_few config s c h x marks (suc n) w = omega (arith, judged_few config s c h x marks n w, field_one config s c h x marks n (fields_judged config s.nav c h x marks n w))

-- ---- at most 256 wait, and a chain in force has at most 14 fields

fields_few : (s : State) → in_force s.config s.chain ≡ true → (chain_of s).nmack * (chain_of s).fields ≤ 14
unfolding chain_of in_force
fields_few s f =
    let r = ns_range s.config in
    (chain_laid (ns_of s.config) s.config (chain_contents s.chain) r.0 r.1 (not-true _ (and_right (eqb (get_or s.chain 0 0) 1) _ f))).few

worked_few : (s : State) (h : Held) (x : Section) (marks : ℕ) → in_force s.config s.chain ≡ true → length (tags_worked s h x marks).records ≤ area_length
unfolding tags_worked
worked_few s h x marks f =
    let c = chain_of s in
    let n = waiting_count s.tesla.numbers in
    let w : Work = record { kept = []; count = 0; sets = s.auth.sets; arrivals = s.auth.arrivals; records = [] } in
    omega (arith, fields_few s f, count_bound s.tesla.numbers, dues_few c h s.tesla.waiting n w, judged_few s.config s c h x marks (c.nmack * c.fields) (dues_judged c h s.tesla.waiting n w))

-- ---- the halves, the call, the record

-- a section is proved only under a chain in force
refused_by : (a : Bool) (x : Proved) (h : Held) → (unless (cond a 17 11) x (record { code = cond a 17 11; held = h })).code ≡ 0 → ⊥
refused_by true x h e = absurd (omega (arith, e))
refused_by false x h e = absurd (omega (arith, e))

unfit_refused : (s : State) (prn t marks header : ℕ) (mack : List ℕ) → section_unfit s t header ≡ true → (section_proved s prn t marks header mack).code ≡ 0 → ⊥
unfolding section_proved
unfit_refused s prn t marks header mack e z = refused_by (not (field_came marks 0)) _ _ (rw e at z)

fit_forced : (s : State) (t header : ℕ) → section_unfit s t header ≡ false → in_force s.config s.chain ≡ true
unfolding section_unfit
fit_forced s t header e = not-false _ (neither (not (in_force s.config s.chain)) _ e).0

proved_forced : (s : State) (prn t marks header : ℕ) (mack : List ℕ) → (section_proved s prn t marks header mack).code ≡ 0 → in_force s.config s.chain ≡ true
proved_forced s prn t marks header mack e =
    ⊎_elim (λ u. absurd (unfit_refused s prn t marks header mack u e)) (λ u. fit_forced s t header u) (either (section_unfit s t header))

mack_few : (s : State) (prn t marks header : ℕ) (mack : List ℕ) → length (mack_half s prn t marks header mack).records ≤ area_length
unfolding mack_half
mack_few s prn t marks header mack =
    let p = section_proved s prn t marks header mack in
    by_number (λ (m : MackDone). length m.records ≤ area_length) p.code
    (λ e. worked_few s p.held (record { prn = prn; time = t; status = status_of header; mack = mack }) marks (proved_forced s prn t marks header mack e))
    (λ _. omega arith)

-- what is shown of a count: against the area that was lent
abbrev pub Few : List ℕ → ℕ → Type 0
Few area n = (n ≤ 270) × (n * 12 ≤ length area)

no_records : (area : List ℕ) → Few area 0
no_records area = (omega arith, omega arith)

halves_few : (s : State) (area : List ℕ) (x : Subframe) → length area ≡ area_length → Few area (halves_done s area x).count
unfolding halves_done
halves_few s area x e =
    let hk = hkroot_of (fields_of x) 15 in
    let a = hkroot_received s x.time x.marks hk in
    let f = mack_few a.state x.prn x.time x.marks (header_of hk) (mack_of (fields_of x) 15) in
    by_test (λ (d : SubframeTold). Few area d.count) a.stops (λ _. no_records area) (λ _. (omega arith, omega arith))

area_lent : (s : State) (area : List ℕ) (x : Subframe) → first_refusal (subframe_checks s area x) ≡ 0 → length area ≡ area_length
unfolding subframe_checks
area_lent s area x e =
    let k = clear (subframe_checks s area x) tt e in
    eqb-true (length area) area_length (and_left _ (eqb (length x.bytes) 75) (and_right (shaped s) _ (not-false _ k.0)))

subframe_few : (s : State) (area : List ℕ) (x : Subframe) → Few area (subframe_call s area x).count
unfolding subframe_call
subframe_few s area x =
    by_number (λ (d : SubframeTold). Few area d.count) (first_refusal (subframe_checks s area x))
    (λ e. halves_few (noted s x) area x (area_lent s area x e))
    (λ _. no_records area)

records_few : (s : Session) (input : List ℕ) → Few s.area (answered s input).count
unfolding answered start_answered word_answered subframe_answered verdict_answered
records_few s input =
    let P : Answered → Type 0 = λ (a : Answered). Few s.area a.count in
    let none = no_records s.area in
    let k = kind_of input in
    by_test P (neb (length input) record_length) (λ _. none)
    (λ _. by_test P (eqb k 1) (λ _. none)
    (λ _. by_test P (eqb k 2) (λ _. by_test P (eqb s.started 0) (λ _. none) (λ _. none))
    (λ _. by_test P (eqb k 3 || eqb k 6) (λ _. by_test P (eqb s.started 0) (λ _. none) (λ _. subframe_few s.core s.area (subframe_of input)))
    (λ _. by_test P (eqb k 4) (λ _. by_test P (eqb s.started 0) (λ _. none) (λ _. none)) (λ _. none)))))

-- of numbers that are a record's answers
pub given_few : (s next : Session) (first second count : ℕ) (input : List ℕ) → gave first second count next ≡ answered s input → Few s.area count
given_few s next first second count input e = subst (λ (a : Answered). Few s.area a.count) (sym e) (records_few s input)

-- room for the lines, and the records themselves
pub room_for : (count lo la : ℕ) → room ≤ lo → count ≤ 270 → la ≡ area_length → (84 + count * 25 ≤ lo) × (count * 12 ≤ la)
room_for count lo la h f e = (omega arith, omega arith)
