-- The sub-frame: both halves, and the sub-frames that are refused before them.
use Prim.Native.Nat.{ℕ, ◌*◌, ◌/◌, ◌≤◌, ◌<◌}
use mathlib.Core.Path.{◌≡◌, refl, sym, ◌∙◌, ap}
use mathlib.Core.Logic.{◌≢◌, ⊎_elim}
use mathlib.Core.Bool.{Bool, true, false, cond, ◌&&◌, ◌||◌, not}
use mathlib.Core.List.{List, [], ◌∷◌}
use native.Mathlib.Nat.{le_refl}
use native.Mathlib.Omega.{arith}
use lib.Dec.{eqb, leb, ltb}
use lib.ListN.{length, get_or, set, replicate, length-set}
use lib.Seq.{get_or-set_same, get_or-set_other}
use borrow.Author.Tests.{not-false, leb-false, ltb-false, eqb-true, eqb-false}
use Rattle.laws.specs.Lists.{part, splice}
use Rattle.laws.specs.Refusal.{first_refusal, neb}
use Rattle.laws.proofs.Refusal.{clear, by_test}
use Rattle.laws.proofs.Splice.{either}
use Rattle.laws.proofs.Tests.{and_left, neither}
use Rattle.rules.specs.Bits.{same}
use Rattle.rules.specs.Calls.{Start, Subframe, SubframeTold, HkrootDone, MackDone, subframe_call, subframe_checks, fields_of, halves_done, noted, hkroot_received, mack_half, section_proved, chain_of, held_of}
use Rattle.rules.specs.Claim.{Fair, MarkBacked}
use Rattle.rules.specs.Gather.{hkroot_of, mack_of, header_of}
use Rattle.rules.specs.Log.{subframe, Entry, Log, step, state_at, subframe_reply}
use Rattle.rules.specs.Received.{fields_came}
use Rattle.rules.specs.State.{State, shaped, prn_valid, stopped, last_subframe, last_subframe_of, waiting_count, area_length}
use Rattle.rules.specs.Times.{time_valid, stamp_of}
use Rattle.rules.proofs.Bounds.{prn_range}
use Rattle.rules.proofs.Choices.{answered, by_number, not-zero}
use Rattle.rules.proofs.HkrootKept.{HkrootIs, received_is, received_clocks}
use Rattle.rules.proofs.Invariant.{Inv, Newer}
use Rattle.rules.proofs.Later.{entry, stepped_at, Quiet, same_inv, unchanged_inv, quiet_subframe, words_later, force_later, held_later, wait_later, sets_later, same_turn}
use Rattle.rules.proofs.Lengths.{Sized, sized}
use Rattle.rules.proofs.MackKept.{Own, Before, MackIs, mack_is, records_back}
use Rattle.rules.proofs.Names.{Onward, newer_before, names_less}
use Rattle.rules.proofs.ReadsFair.{no_marks, no_question}
use Rattle.rules.proofs.Refused.{mack_half_kept}

-- ---- the invariant after the HKROOT half, what the MACK half finds, and the invariant after that

hkroot_inv : (o : Start) (b s s' : State) (x : Entry) (l : Log) → Inv o b s l → Quiet x → HkrootIs o s (x ∷ l) s' → Onward s.clocks s'.clocks → s' ≡ state_at b (x ∷ l) → Inv o b s' (x ∷ l)
unfolding chain_of held_of
hkroot_inv o b s s' x l v q a onward at =
    record {
      at = at;
      ns = a.ns ∙ v.ns;
      root = a.root ∙ v.root;
      words = rw a.nav (words_later q.no_word v.words);
      blocks = a.blocks;
      unfinished = a.unfinished;
      pubkeys = a.pubkeys;
      offer = a.offer;
      force = rw (a.in_force_law s'.chain, a.chain) (λ h. force_later q.no_verdict (v.force h));
      held = rw (a.in_force_law s'.chain, a.ns, a.chain, a.tesla) (λ h. held_later (v.held h));
      waiting = rw (a.in_force_law s'.chain, a.chain, a.tesla) (λ h k i. wait_later (same_turn x l q.no_verdict) (v.waiting h k i));
      used = v.used;
      names = rw a.tesla (names_less (Newer s.clocks) (Newer s'.clocks) s.tesla.waiting (waiting_count s.tesla.numbers) v.used (newer_before s.clocks s'.clocks onward) v.names);
      auth = rw a.auth (sets_later o b s.auth v.used l x (same_turn x l q.no_verdict) v.auth);
    }

hkroot_before : (o : Start) (b s s' : State) (x : Entry) (l : Log) → Inv o b s l → Quiet x → Sized s → HkrootIs o s (x ∷ l) s' → Before o b s' x l (Newer s.clocks)
unfolding chain_of held_of
hkroot_before o b s s' x l v q z a =
    record {
      ns = a.ns ∙ v.ns;
      words = rw a.nav v.words;
      force = rw (a.in_force_law s'.chain, a.chain) v.force;
      held = rw (a.in_force_law s'.chain, a.ns, a.chain, a.tesla) v.held;
      waiting = rw (a.in_force_law s'.chain, a.chain, a.tesla) (λ h k i. wait_later (same_turn x l q.no_verdict) (v.waiting h k i));
      used = v.used;
      names = rw a.tesla v.names;
      auth = rw a.auth v.auth;
      waiting_size = rw a.tesla z.waiting;
      sets_size = rw a.auth z.sets;
      arrivals_size = rw a.auth z.arrivals;
    }

mack_inv : (o : Start) (b s s' : State) (x : Entry) (l : Log) (m : MackDone) → Inv o b s l → Quiet x → HkrootIs o s (x ∷ l) s' → MackIs o b s' x l (Newer s'.clocks) m → x.reply.records ≡ m.records → m.state ≡ state_at b (x ∷ l) → Inv o b m.state (x ∷ l)
mack_inv o b s s' x l m v q a k w at =
    record {
      at = at;
      ns = rw k.config (a.ns ∙ v.ns);
      root = rw k.config (a.root ∙ v.root);
      words = rw (k.nav, a.nav) (words_later q.no_word v.words);
      blocks = rw k.store a.blocks;
      unfinished = rw k.store a.unfinished;
      pubkeys = rw k.pubkeys a.pubkeys;
      offer = rw (k.pubkeys, k.offer) a.offer;
      force = rw (k.config, k.chain, a.in_force_law s'.chain, a.chain) (λ h. force_later q.no_verdict (v.force h));
      held = λ h. k.held;
      waiting = λ h. k.waiting;
      used = k.used;
      names = rw k.clocks k.names;
      auth = k.auth w;
    }

-- ---- what the checks say

pub record Fit (s : State) (sub : Subframe) : Type 0 where
  pub size : Sized s
  pub prn : prn_valid sub.prn ≡ true
  pub time : time_valid sub.time ≡ true
  -- row 3: not earlier than the last, and later than its satellite's last
  pub onward : last_subframe s.clocks ≤ stamp_of sub.time
  pub later : last_subframe_of s.clocks sub.prn < stamp_of sub.time

abbrev pub lengths_wrong : State → List ℕ → Subframe → Bool
lengths_wrong s area sub = not (shaped s && (eqb (length area) area_length && eqb (length sub.bytes) 75))

abbrev pub out_of_range : Subframe → Bool
out_of_range sub = not (prn_valid sub.prn) || not (time_valid sub.time)

abbrev pub too_early : State → Subframe → Bool
too_early s sub = ltb (stamp_of sub.time) (last_subframe s.clocks) || leb (stamp_of sub.time) (last_subframe_of s.clocks sub.prn)

fit_of : (s : State) (area : List ℕ) (sub : Subframe) → lengths_wrong s area sub ≡ false → out_of_range sub ≡ false → too_early s sub ≡ false → Fit s sub
fit_of s area sub h r e =
    let a = not-false (shaped s && (eqb (length area) area_length && eqb (length sub.bytes) 75)) h in
    let t = neither (not (prn_valid sub.prn)) (not (time_valid sub.time)) r in
    let d = neither (ltb (stamp_of sub.time) (last_subframe s.clocks)) (leb (stamp_of sub.time) (last_subframe_of s.clocks sub.prn)) e in
    record {
      size = sized s (and_left (shaped s) _ a);
      prn = not-false (prn_valid sub.prn) t.0;
      time = not-false (time_valid sub.time) t.1;
      onward = ltb-false (stamp_of sub.time) (last_subframe s.clocks) d.0;
      later = leb-false (stamp_of sub.time) (last_subframe_of s.clocks sub.prn) d.1;
    }

pub fit : (s : State) (area : List ℕ) (sub : Subframe) → first_refusal (subframe_checks s area sub) ≡ 0 → Fit s sub
unfolding subframe_checks
fit s area sub h =
    let c = clear (subframe_checks s area sub) tt h in
    fit_of s area sub c.0 c.1.0 c.1.1.1.0

-- number 5 is the last one
before_five : (a b c d e : Bool) → ◌≡◌ {A = ℕ} (cond a 1 (cond b 2 (cond c 4 (cond d 3 (cond e 5 0))))) 5 → (a ≡ false) × ((b ≡ false) × (d ≡ false))
before_five true b c d e h = absurd (omega (arith, h))
before_five false true c d e h = absurd (omega (arith, h))
before_five false false true d e h = absurd (omega (arith, h))
before_five false false false true e h = absurd (omega (arith, h))
before_five false false false false e h = (refl, (refl, refl))

pub five_fit : (s : State) (area : List ℕ) (sub : Subframe) → first_refusal (subframe_checks s area sub) ≡ 5 → Fit s sub
unfolding subframe_checks
five_fit s area sub h =
    let q =
    before_five (lengths_wrong s area sub) (out_of_range sub) (stopped s.config) (too_early s sub)
    (neb (fields_came sub.marks 15) 0 && same (fields_of sub) (replicate 75 0)) h in
    fit_of s area sub q.0 q.1.0 q.1.1

-- ---- noting a time changes only clocks

-- this satellite's clock then, and the others'
noted_own : (s : State) (sub : Subframe) → Fit s sub → last_subframe_of (noted s sub).clocks sub.prn ≡ stamp_of sub.time
unfolding noted last_subframe_of
noted_own s sub f =
    let r = prn_range sub.prn f.prn in
    let h = r.1 in
    let z = f.size.clocks in
    let y = length-set s.clocks 0 (stamp_of sub.time) in
    get_or-set_same (set s.clocks 0 (stamp_of sub.time)) sub.prn (stamp_of sub.time) 0 (omega arith)

noted_other : (s : State) (sub : Subframe) (prn : ℕ) → prn_valid prn ≡ true → prn ≢ sub.prn → last_subframe_of (noted s sub).clocks prn ≡ last_subframe_of s.clocks prn
unfolding noted last_subframe_of
noted_other s sub prn valid d =
    let r = prn_range prn valid in
    let h = r.0 in
    get_or-set_other (set s.clocks 0 (stamp_of sub.time)) sub.prn prn (stamp_of sub.time) 0 d
    ∙ get_or-set_other s.clocks 0 prn (stamp_of sub.time) 0 (λ z. absurd (omega (arith, z, h)))

noted_onward : (s : State) (sub : Subframe) → Fit s sub → Onward s.clocks (noted s sub).clocks
noted_onward s sub f prn valid =
    ⊎_elim
    (λ e. (
    let q = eqb-true prn sub.prn e in
    let o = noted_own s sub f in
    let g = f.later in
    rw q (omega arith)
    ))
    (λ e. rw (noted_other s sub prn valid (eqb-false prn sub.prn e)) (le_refl _))
    (either (eqb prn sub.prn))

noted_inv : (o : Start) (b s : State) (sub : Subframe) (x : Entry) (l : Log) → Inv o b s l → Quiet x → Fit s sub → noted s sub ≡ state_at b (x ∷ l) → Inv o b (noted s sub) (x ∷ l)
unfolding noted
noted_inv o b s sub x l v q f at = same_inv o b s (noted s sub) x l v q.no_verdict at refl refl refl refl refl refl v.offer (words_later q.no_word v.words) (noted_onward s sub f)

noted_is : (o : Start) (s s' : State) (sub : Subframe) (l : Log) → HkrootIs o (noted s sub) l s' → HkrootIs o s l s'
unfolding noted
noted_is o s s' sub l a =
    record {
      ns = a.ns;
      root = a.root;
      in_force_law = a.in_force_law;
      nav = a.nav;
      blocks = a.blocks;
      unfinished = a.unfinished;
      pubkeys = a.pubkeys;
      offer = a.offer;
      chain = a.chain;
      tesla = a.tesla;
      auth = a.auth;
    }

-- ---- a sub-frame as it is logged

abbrev pub entry_of : List ℕ → Subframe → SubframeTold → Entry
entry_of area sub r = record { call = subframe area sub; reply = subframe_reply r.hkroot r.mack r.count r.area }

fair_of : (o : Start) (b : State) (area : List ℕ) (sub : Subframe) (r : SubframeTold) (l : Log)
    → ((k : ℕ) → 12 * k < length (entry_of area sub r).reply.records → get_or (entry_of area sub r).reply.records (12 * k) 0 ≡ 1 → MarkBacked o b k (entry_of area sub r) l) → Fair o b (entry_of area sub r) l
fair_of o b area sub r l m = no_question o b (entry_of area sub r) l refl m

-- one that wrote no record
quiet_fair : (o : Start) (b : State) (area : List ℕ) (sub : Subframe) (r : SubframeTold) (l : Log) → part r.area 0 (12 * r.count) ≡ [] → Fair o b (entry_of area sub r) l
quiet_fair o b area sub r l e = fair_of o b area sub r l (λ k h m. no_marks o b (entry_of area sub r) l e k h)

no_records : (area : List ℕ) → part area 0 (12 * 0) ≡ []
unfolding part
no_records area = refl

-- what is to be shown of what a sub-frame gives
abbrev Good : Start → State → Log → List ℕ → Subframe → SubframeTold → Type 0
Good o b l area sub r = r.state ≡ state_at b (entry_of area sub r ∷ l) → Fair o b (entry_of area sub r) l × Inv o b r.state (entry_of area sub r ∷ l)

quiet_entry : (area : List ℕ) (sub : Subframe) (r : SubframeTold) → Quiet (entry_of area sub r)
quiet_entry area sub r = quiet_subframe (entry_of area sub r) area sub refl

no_records_refused : (s : State) (prn t marks header : ℕ) (mack : List ℕ) → (mack_half s prn t marks header mack).code ≢ 0 → (mack_half s prn t marks header mack).records ≡ []
unfolding mack_half
no_records_refused s prn t marks header mack =
    by_number (λ (m : MackDone). m.code ≢ 0 → m.records ≡ []) (section_proved s prn t marks header mack).code (λ _ h. absurd (h refl)) (λ _ _. refl)

-- ---- the halves

module _ (o : Start) (b s : State) (l : Log) (area : List ℕ) (sub : Subframe) (v : Inv o b s l) (f : Fit s sub) where
  abbrev first : HkrootDone
  first = hkroot_received (noted s sub) sub.time sub.marks (hkroot_of (fields_of sub) 15)

  abbrev second : MackDone
  second = mack_half first.state sub.prn sub.time sub.marks (header_of (hkroot_of (fields_of sub) 15)) (mack_of (fields_of sub) 15)

  first_is : (r : SubframeTold) → first.code ≡ r.hkroot → HkrootIs o s (entry_of area sub r ∷ l) first.state
  unfolding noted
  first_is r ok =
      noted_is o s first.state sub (entry_of area sub r ∷ l)
      (received_is o (noted s sub) (entry_of area sub r) sub l (λ e. rw e refl) f.size.config f.size.blocks f.size.present f.size.pubkeys v.blocks v.unfinished v.pubkeys v.root v.offer sub.time ok)

  first_onward : Onward s.clocks first.state.clocks
  first_onward = rw (received_clocks (noted s sub) sub.time sub.marks (hkroot_of (fields_of sub) 15)) (noted_onward s sub f)

  -- a tag of this section comes after its sender's last sub-frame, and none after that is of this section
  own_newer : (block position : ℕ) → Newer s.clocks (Own sub block position)
  own_newer block position = (f.prn, f.later)

  newer_less : (n : List ℕ) → Newer first.state.clocks n → Newer s.clocks n × ((block position : ℕ) → n ≢ Own sub block position)
  newer_less n u = (
    newer_before s.clocks first.state.clocks first_onward n u,
    λ block position e. (
        let c = ap (λ (z : List ℕ). last_subframe_of z sub.prn) (received_clocks (noted s sub) sub.time sub.marks (hkroot_of (fields_of sub) 15)) ∙ noted_own s sub f in
        let w : last_subframe_of first.state.clocks sub.prn < stamp_of sub.time = rw e at u.1 in
        omega arith
        ),
  )

  -- "that sub-frame returns 0 and 4"
  stopped_good : Good o b l area sub (record { hkroot = first.code; mack = 4; count = 0; state = first.state; area = area })
  stopped_good at =
      let r : SubframeTold = record { hkroot = first.code; mack = 4; count = 0; state = first.state; area = area } in (
        quiet_fair o b area sub r l (no_records area),
        hkroot_inv o b s first.state (entry_of area sub r) l v (quiet_entry area sub r) (first_is r refl) first_onward at,
      )

  abbrev both : SubframeTold
  both = record { hkroot = first.code; mack = second.code; count = length second.records / 12; state = second.state; area = splice area 0 second.records }

  taken_good : second.code ≡ 0 → Good o b l area sub both
  taken_good e at =
      let a = first_is both refl in
      let k =
      mack_is o b first.state (entry_of area sub both) l sub (Newer s.clocks) own_newer (hkroot_before o b s first.state (entry_of area sub both) l v (quiet_entry area sub both) f.size a) (rw e refl) (quiet_entry area sub both).no_verdict f.time
      (Newer first.state.clocks) newer_less e in
      let w = records_back area second.records k.size.0 k.size.1 in
      (fair_of o b area sub both l (k.marks w), mack_inv o b s first.state (entry_of area sub both) l second v (quiet_entry area sub both) a k w at)

  refused_good : second.code ≢ 0 → Good o b l area sub both
  refused_good n at =
      let k = mack_half_kept first.state sub.prn sub.time sub.marks (header_of (hkroot_of (fields_of sub) 15)) (mack_of (fields_of sub) 15) n in
      let z = no_records_refused first.state sub.prn sub.time sub.marks (header_of (hkroot_of (fields_of sub) 15)) (mack_of (fields_of sub) 15) n in
      (quiet_fair o b area sub both l (rw z (no_records _)), rw k (hkroot_inv o b s first.state (entry_of area sub both) l v (quiet_entry area sub both) (first_is both refl) first_onward (sym k ∙ at)))

  halves_good : Good o b l area sub (halves_done (noted s sub) area sub)
  unfolding halves_done
  halves_good =
      by_test (Good o b l area sub) first.stops (λ _. stopped_good)
      (λ _. ⊎_elim taken_good (λ p. refused_good (not-zero second.code p.0 p.1)) (answered second.code))

-- ---- the call

subframe_good : (o : Start) (b s : State) (l : Log) (area : List ℕ) (sub : Subframe) → Inv o b s l → Good o b l area sub (subframe_call s area sub)
unfolding subframe_call
subframe_good o b s l area sub v =
    by_number (Good o b l area sub) (first_refusal (subframe_checks s area sub))
    (λ e. halves_good o b s l area sub v (fit s area sub e))
    (λ n at. (
    let code = first_refusal (subframe_checks s area sub) in
    let r : SubframeTold = record { hkroot = code; mack = code; count = 0; state = cond (eqb code 5) (noted s sub) s; area = area } in (
      quiet_fair o b area sub r l (no_records area),
      by_test (λ (s' : State). s' ≡ state_at b (entry_of area sub r ∷ l) → Inv o b s' (entry_of area sub r ∷ l)) (eqb code 5)
          (λ e. noted_inv o b s sub (entry_of area sub r) l v (quiet_entry area sub r) (five_fit s area sub (eqb-true code 5 e)))
          (λ _ at. unchanged_inv o b s (entry_of area sub r) l v (quiet_entry area sub r) at)
          at,
    )
    ))

pub subframe_call_lem : (o : Start) (b s : State) (l : Log) (area : List ℕ) (sub : Subframe) → Inv o b s l
    → Fair o b (entry s (subframe area sub)) l × Inv o b (step s (subframe area sub)).state (entry s (subframe area sub) ∷ l)
unfolding step
subframe_call_lem o b s l area sub v = subframe_good o b s l area sub v (stepped_at b s l (subframe area sub) v.at)
