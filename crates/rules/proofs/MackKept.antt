-- The MACK half: every record of outcome 1 is backed; held key, waiting tags and authentic sets are by the history again.
use Prim.Native.Nat.{ℕ, suc, ◌+◌, ◌*◌, ◌/◌, ◌^◌, ◌≤◌, ◌<◌}
use mathlib.Core.Path.{◌≡◌, refl, sym, ◌∙◌, ap}
use mathlib.Core.Logic.{◌≢◌, inl, inr}
use mathlib.Core.Bool.{Bool, true, false, cond, not}
use mathlib.Core.List.{List, [], ◌∷◌}
use mathlib.Core.Option.{none, some}
use native.Mathlib.Nat.{le_refl}
use native.Mathlib.Omega.{arith}
use lib.Dec.{ltb, eqb}
use lib.ListN.{length, get_or, take, drop}
use lib.Seq.{take_at}
use borrow.Author.Tests.{ltb-false, not-true, not-false}
use Rattle.laws.specs.Lists.{part, splice}
use Rattle.laws.specs.Refusal.{unless}
use Rattle.laws.proofs.Tests.{neither, and_right}
use Rattle.rules.specs.Bits.{filled, within}
use Rattle.rules.specs.Calls.{Start, Subframe, MackDone, fields_of, chain_of, held_of, section_unfit, section_proved, tags_worked, section_taken, mack_half}
use Rattle.rules.specs.Candidates.{pair_at}
use Rattle.rules.specs.Chain.{Held, hash_bytes, sent_slot}
use Rattle.rules.specs.Claim.{HashNamed, Counted, Agreed, AgreedUpTo, MarkBacked, contents_by, chain_by, section_of}
use Rattle.rules.specs.Gather.{hkroot_of, mack_of, header_of, status_of, cid_of}
use Rattle.rules.specs.Kroot.{kroot_of, chain_with, chain_contents, in_force, nmack_of, hf_of, ks_of, key_width, hf_bad, parameters_bad, root_seconds_of}
use Rattle.rules.specs.Log.{Entry, Log, here, earlier, section_in, verdict_in, chain_turns}
use Rattle.rules.specs.Mack.{Proved}
use Rattle.rules.specs.Navdata.{set_issue}
use Rattle.rules.specs.Received.{field_came, keys_received}
use Rattle.rules.specs.State.{State, ns_of, waiting_count, waiting_length, sets_length, arrivals_length, heldkey_length}
use Rattle.rules.specs.Tags.{Work, entry_at, own_tag, tag_record}
use Rattle.rules.specs.Times.{seconds_of, time_valid}
use Rattle.rules.specs.Verdict.{cid_in_force}
use Rattle.rules.proofs.Agreements.{forty_map, pair_map}
use Rattle.rules.proofs.Bounds.{bits_lt, ns_range, slot_bound, held_bound, held-written, count_bound, count-written}
use Rattle.rules.proofs.Choices.{by_number}
use Rattle.rules.proofs.DueTags.{SectionIs, dues_are, root_seconds}
use Rattle.rules.proofs.Entries.{entries_in}
use Rattle.rules.proofs.Invariant.{WordsAre, InForce, HeldIs, WaitIs, NamesAre, AgreedIn, SetsAre}
use Rattle.rules.proofs.Later.{held_later, same_turn}
use Rattle.rules.proofs.Names.{Undue, names_less, names_in}
use Rattle.rules.proofs.OwnTags.{UnheardOf, fields_are}
use Rattle.rules.proofs.Parts.{filled_back}
use Rattle.rules.proofs.SetsBacked.{forty_bits}
use Rattle.rules.proofs.SectionKeys.{Proves, keys_are}
use Rattle.rules.proofs.TagRecords.{NewAgreed, AgreedNow, AgreedBy, PlaceMarked, WorkIs, start_is}

-- what the half needs of the state that it finds
pub record Before (o : Start) (b s : State) (x : Entry) (l : Log) (U : List ℕ → Type 0) : Type 0 where
  pub ns : ns_of s.config ≡ o.ns
  pub words : WordsAre s.nav l
  pub force : in_force s.config s.chain ≡ true → InForce o b (chain_contents s.chain) l
  pub held : in_force s.config s.chain ≡ true → HeldIs (chain_of s) (kroot_of (chain_contents s.chain)) (held_of s) l
  pub waiting : in_force s.config s.chain ≡ true → (k : ℕ) → k < waiting_count s.tesla.numbers → WaitIs o (chain_contents s.chain) (entry_at s.tesla.waiting k) (x ∷ l)
  pub used : List (List ℕ)
  pub names : NamesAre U s.tesla.waiting (waiting_count s.tesla.numbers) used
  pub auth : SetsAre o b s.auth used l
  pub waiting_size : length s.tesla.waiting ≡ waiting_length
  pub sets_size : length s.auth.sets ≡ sets_length
  pub arrivals_size : length s.auth.arrivals ≡ arrivals_length

-- a name that this section's tags may have
abbrev pub Own : Subframe → ℕ → ℕ → List ℕ
Own sub block position = sub.prn ∷ sub.time ∷ block ∷ position ∷ []

-- ---- what a section answered 0 says

-- the keys of its blocks
abbrev keys_of : State → Subframe → Proved
keys_of s sub = keys_received (chain_of s) sub.time sub.prn (mack_of (fields_of sub) 15) sub.marks (held_of s) (chain_of s).nmack

-- the half's own number and keys
abbrev section_on : State → Subframe → Proved
section_on s sub = section_proved s sub.prn sub.time sub.marks (header_of (hkroot_of (fields_of sub) 15)) (mack_of (fields_of sub) 15)

record Fit (s : State) (sub : Subframe) : Type 0 where
  force : in_force s.config s.chain ≡ true
  not_before : (chain_of s).root ≤ seconds_of sub.time
  proved : (keys_of s sub).code ≡ 0
  same_proof : section_on s sub ≡ keys_of s sub

fit : (s : State) (sub : Subframe) → (section_on s sub).code ≡ 0 → Fit s sub
unfolding section_proved section_unfit
fit s sub h = go (not (field_came sub.marks 0)) (section_unfit s sub.time (header_of (hkroot_of (fields_of sub) 15))) refl refl h
  where
    res : Bool → Bool → Proved
    res a u = unless (cond a 17 (cond u 11 0)) (keys_of s sub) (record { code = cond a 17 (cond u 11 0); held = held_of s })

    go : (a u : Bool) → not (field_came sub.marks 0) ≡ a → section_unfit s sub.time (header_of (hkroot_of (fields_of sub) 15)) ≡ u → (res a u).code ≡ 0 → Fit s sub
    go true u m e h = absurd (let z : ◌≡◌ {A = ℕ} 17 0 = h in omega arith)
    go false true m e h = absurd (let z : ◌≡◌ {A = ℕ} 11 0 = h in omega arith)
    go false false m e h =
        let a = neither (not (in_force s.config s.chain)) _ e in
        let c = neither (not (within 1 2 (status_of (header_of (hkroot_of (fields_of sub) 15))))) _ a.1 in
        let d = neither (not (cid_in_force s (cid_of (header_of (hkroot_of (fields_of sub) 15))))) _ c.1 in
        let r = neither (ltb (seconds_of sub.time) (chain_of s).root) false d.1 in
        record { force = not-false _ a.0; not_before = ltb-false (seconds_of sub.time) (chain_of s).root r.0; proved = h; same_proof = rw (m, e) refl }

-- ---- numbers

nmack_few : (s : State) → (chain_of s).nmack ≤ 3
unfolding chain_of chain_with nmack_of
nmack_few s = let q = bits_lt (chain_contents s.chain) 2 2 in omega arith

chain_ns : (s : State) → (1 ≤ (chain_of s).ns) × ((chain_of s).ns ≤ 36)
unfolding chain_of chain_with
chain_ns s = ns_range s.config

section_slots : (s : State) (sub : Subframe) → time_valid sub.time ≡ true → (k : ℕ) → k < (chain_of s).nmack → sent_slot (chain_of s) sub.time (suc k) sub.prn < 2 ^ 34
section_slots s sub v k h = slot_bound (chain_of s) sub.time k sub.prn (chain_ns s).0 (chain_ns s).1 (nmack_few s) h v

held_small : (s : State) → (held_of s).slot < 2 ^ 34
unfolding held_of
held_small s = held_bound s.tesla.numbers

-- ---- the hash of a chain in force

good : (config chain : List ℕ) → in_force config chain ≡ true → parameters_bad config (chain_contents chain) ≡ false
unfolding in_force
good config chain h = not-true _ (and_right (eqb (get_or chain 0 0) 1) _ h)

hash_of : (config contents : List ℕ) (ns : ℕ) → parameters_bad config contents ≡ false → HashNamed (chain_with ns contents) contents
unfolding parameters_bad hf_bad chain_with
hash_of config contents ns h =
    let t = neither (ltb 2 (hf_of contents)) _ (neither (hf_bad contents) _ h).0 in
    record {
      hf_is = refl;
      named = ltb-false 2 (hf_of contents) t.0;
      key_fits = ltb-false (hash_bytes (hf_of contents)) (key_width (ks_of contents)) t.1;
    }

-- records that were written at the start of the area read back
pub records_back : (area records : List ℕ) (n : ℕ) → length records ≡ n * 12 → part (splice area 0 records) 0 (12 * (length records / 12)) ≡ records
unfolding part splice
records_back area records n h =
    let e : 12 * (length records / 12) ≡ length records = omega arith in
    rw e (take_at records (drop (length records) area) (length records) refl)

-- a record of these bytes is a record of equal ones
record_in : (a b : List ℕ) (place : ℕ) (r : List ℕ) → a ≡ b → part b (12 * place) 12 ≡ r → part a (12 * place) 12 ≡ r
record_in a b place r e h = rw e h

-- ---- the work

module _ (o : Start) (b s : State) (x : Entry) (l : Log) (sub : Subframe) (U : List ℕ → Type 0) (new : (block position : ℕ) → U (Own sub block position)) (v : Before o b s x l U) (section_is : section_in x ≡ some sub) (no_verdict : verdict_in x ≡ none) (time-valid : time_valid sub.time ≡ true) (f : Fit s sub) where
  force : InForce o b (chain_contents s.chain) l
  force = v.force f.force

  chain_is : chain_of s ≡ chain_by o force.said
  unfolding chain_of
  chain_is = rw (v.ns, force.contents_are) refl

  -- the highest key proved
  unfoldable top : Held
  top = (keys_of s sub).held

  proves : Proves (chain_of s) (kroot_of (chain_contents s.chain)) (x ∷ l) sub (chain_of s).nmack top
  unfolding top
  proves =
      keys_are (chain_of s) (kroot_of (chain_contents s.chain)) x l sub section_is f.not_before (section_slots s sub time-valid) (held_of s) (chain_of s).nmack (le_refl _)
      (held_later (v.held f.force)) (held_small s) f.proved

  judged_in : SectionIs o b force.said top x l sub
  judged_in =
      record {
        section_is = section_is;
        in_force_law = force.in_force_law;
        vouched = force.vouched;
        held_is = rw (← chain_is, ← force.contents_are) proves.held_is;
        hash_named = hash_of s.config (contents_by force.said) o.ns (rw force.contents_are at (good s.config s.chain f.force));
      }

  root_before : root_seconds_of (contents_by force.said) ≤ seconds_of sub.time
  root_before = rw (← root_seconds o.ns (contents_by force.said), ← chain_is) f.not_before

  abbrev work : Work
  work = tags_worked s top (section_of sub) sub.marks

  -- names of tags that are neither used, nor waiting, nor of this section
  abbrev Unseen : List ℕ → Type 0
  Unseen = UnheardOf (Undue v.used s.tesla.waiting (waiting_count s.tesla.numbers)) (chain_by o force.said) sub ((chain_by o force.said).nmack * (chain_by o force.said).fields)

  work_is : WorkIs o b force.said x l Unseen (tags_worked s top (section_of sub) sub.marks)
  unfolding tags_worked
  work_is =
      rw chain_is
      (fields_are o b force.said top x l sub judged_in s.config s.nav v.words root_before (rw (← chain_is) proves.reached) time-valid
      (Undue v.used s.tesla.waiting (waiting_count s.tesla.numbers)) (λ block position. v.names.unseen (Own sub block position) (new block position))
      ((chain_by o force.said).nmack * (chain_by o force.said).fields) _ (le_refl _)
      (dues_are o b force.said top x l sub judged_in U v.used s.tesla.waiting (waiting_count s.tesla.numbers) v.waiting_size (count_bound s.tesla.numbers) v.names
      (rw (← force.contents_are) (λ k h. v.waiting f.force k h))
      (waiting_count s.tesla.numbers) _ (le_refl _)
      (start_is o b force.said x l force.in_force_law s.auth v.used v.auth v.sets_size v.arrivals_size)))

  -- ---- what it leaves

  abbrev left : State
  left = section_taken s top work

  module _ (written : x.reply.records ≡ (tags_worked s top (section_of sub) sub.marks).records) where
    -- a tag that agreed here is in the log
    agreed_here : (prn : ℕ) (navdata : List ℕ) (turn : ℕ) (c : Counted) → NewAgreed o b work.records prn navdata turn c x l → Agreed o b prn navdata turn c x l
    agreed_here prn navdata turn c a =
        record {
          prn_is = a.prn_is;
          outcome = a.outcome;
          place = a.place;
          outcome_is = a.outcome_is;
          record_is = record_in x.reply.records work.records a.place (tag_record a.outcome c.tag (set_issue navdata)) written a.record_is;
          four = a.four;
          size_is = a.size_is;
          turn_is = a.turn_is;
        }

    logged : (prn : ℕ) (navdata : List ℕ) (turn : ℕ) (c : Counted) → AgreedNow o b work.records x l prn navdata turn c → AgreedIn o b (x ∷ l) prn navdata turn c
    logged prn navdata turn c (inl a) = earlier a
    logged prn navdata turn c (inr a) = here (agreed_here prn navdata turn c a)

    up_to : (prn : ℕ) (navdata : List ℕ) (n turn : ℕ) (c : Counted) → AgreedBy o b work.records x l prn navdata n turn c → AgreedUpTo o b prn navdata n x l turn c
    unfolding agreed_here
    up_to prn navdata n turn c (inl a) = inl a
    up_to prn navdata n turn c (inr a) = inr (agreed_here prn navdata turn c a.0, a.1)

    place_backed : (k : ℕ) → PlaceMarked o b work.records k x l → MarkBacked o b k x l
    place_backed k p =
        record {
          tag = p.tag;
          navdata = p.navdata;
          marked =
              record {
                record_is = record_in x.reply.records work.records k (tag_record 1 p.tag (set_issue p.navdata)) written p.record_is;
                four = p.four;
                forty =
                    forty_bits (AgreedUpTo o b p.tag.prn p.navdata (k + 1) x l) p.time
                    (forty_map (AgreedBy o b work.records x l p.tag.prn p.navdata (k + 1)) (AgreedUpTo o b p.tag.prn p.navdata (k + 1) x l) p.time
                    (up_to p.tag.prn p.navdata (k + 1)) p.forty);
              };
        }

    mark_backed : (k : ℕ) → 12 * k < length x.reply.records → get_or x.reply.records (12 * k) 0 ≡ 1 → MarkBacked o b k x l
    mark_backed k h m =
        let n = work_is.size in
        let e : length x.reply.records ≡ length work.records = ap length written in
        place_backed k (work_is.marks k (omega arith) (ap (λ (r : List ℕ). get_or r (12 * k) 0) (sym written) ∙ m))

    sets_after : SetsAre o b left.auth work_is.used (x ∷ l)
    unfolding section_taken
    sets_after =
        record {
          backed = λ prn p.
              rw (same_turn x l no_verdict)
              (pair_map (AgreedNow o b work.records x l prn) (AgreedIn o b (x ∷ l) prn) work_is.used (chain_turns l) (pair_at work.sets work.arrivals prn) (logged prn) (work_is.pairs prn p));
        }

  names_after : (U2 : List ℕ → Type 0) → ((n : List ℕ) → U2 n → U n × ((block position : ℕ) → n ≢ Own sub block position))
      → NamesAre U2 left.tesla.waiting (waiting_count left.tesla.numbers) work_is.used
  unfolding section_taken own_tag
  names_after U2 less =
      names_in U2 work.kept s.tesla.waiting work.count _ work_is.used work_is.waiting.size (count-written top.slot work.count)
      (names_less Unseen U2 work.kept work.count work_is.used (λ n u. (v.names.unseen n (less n u).0, λ i g. (less n u).1 _ _)) work_is.names)

  held_after : HeldIs (chain_of left) (kroot_of (chain_contents left.chain)) (held_of left) (x ∷ l)
  unfolding section_taken chain_of held_of
  held_after =
      let slot = held-written top.slot work.count proves.small in
      let key : take (chain_with (ns_of s.config) (chain_contents s.chain)).width (filled heldkey_length top.key) ≡ top.key = filled_back heldkey_length _ top.key proves.held_is.width in
      rw (slot, key) proves.held_is

  waiting_after : (k : ℕ) → k < waiting_count left.tesla.numbers → WaitIs o (chain_contents left.chain) (entry_at left.tesla.waiting k) (x ∷ l)
  unfolding section_taken
  waiting_after k i =
      let c = count-written top.slot work.count in
      rw force.contents_are (entries_in (λ (e : List ℕ). WaitIs o (contents_by force.said) e (x ∷ l)) s.tesla.waiting work.kept work.count work_is.waiting k (omega arith))

-- ---- the half

-- what a MACK half answered 0 leaves, and what its records say
pub record MackIs (o : Start) (b s : State) (x : Entry) (l : Log) (U2 : List ℕ → Type 0) (m : MackDone) : Type 0 where
  pub config : m.state.config ≡ s.config
  pub clocks : m.state.clocks ≡ s.clocks
  pub nav : m.state.nav ≡ s.nav
  pub store : m.state.store ≡ s.store
  pub pubkeys : m.state.pubkeys ≡ s.pubkeys
  pub offer : m.state.offer ≡ s.offer
  pub chain : m.state.chain ≡ s.chain
  pub size : (n : ℕ) × (length m.records ≡ n * 12)
  pub held : HeldIs (chain_of m.state) (kroot_of (chain_contents m.state.chain)) (held_of m.state) (x ∷ l)
  pub waiting : (k : ℕ) → k < waiting_count m.state.tesla.numbers → WaitIs o (chain_contents m.state.chain) (entry_at m.state.tesla.waiting k) (x ∷ l)
  pub used : List (List ℕ)
  pub names : NamesAre U2 m.state.tesla.waiting (waiting_count m.state.tesla.numbers) used
  pub auth : x.reply.records ≡ m.records → SetsAre o b m.state.auth used (x ∷ l)
  pub marks : x.reply.records ≡ m.records → (k : ℕ) → 12 * k < length x.reply.records → get_or x.reply.records (12 * k) 0 ≡ 1 → MarkBacked o b k x l

abbrev work_of : State → Subframe → Work
work_of s sub = tags_worked s (keys_of s sub).held (section_of sub) sub.marks

taken_is : (o : Start) (b s : State) (x : Entry) (l : Log) (sub : Subframe) (U : List ℕ → Type 0) (new : (block position : ℕ) → U (Own sub block position)) (v : Before o b s x l U) (section_is : section_in x ≡ some sub) (no_verdict : verdict_in x ≡ none) (tv : time_valid sub.time ≡ true) (f : Fit s sub)
    (U2 : List ℕ → Type 0) → ((n : List ℕ) → U2 n → U n × ((block position : ℕ) → n ≢ Own sub block position))
    → MackIs o b s x l U2 (record { code = 0; records = (work_of s sub).records; state = section_taken s (keys_of s sub).held (work_of s sub) })
unfolding top section_taken
taken_is o b s x l sub U new v section_is no_verdict tv f U2 less =
    record {
      config = refl;
      clocks = refl;
      nav = refl;
      store = refl;
      pubkeys = refl;
      offer = refl;
      chain = refl;
      size = ((work_is o b s x l sub U new v section_is no_verdict tv f).n, (work_is o b s x l sub U new v section_is no_verdict tv f).size);
      held = held_after o b s x l sub U new v section_is no_verdict tv f;
      waiting = waiting_after o b s x l sub U new v section_is no_verdict tv f;
      used = (work_is o b s x l sub U new v section_is no_verdict tv f).used;
      names = names_after o b s x l sub U new v section_is no_verdict tv f U2 less;
      auth = sets_after o b s x l sub U new v section_is no_verdict tv f;
      marks = mark_backed o b s x l sub U new v section_is no_verdict tv f;
    }

pub mack_is : (o : Start) (b s : State) (x : Entry) (l : Log) (sub : Subframe) (U : List ℕ → Type 0) → ((block position : ℕ) → U (Own sub block position)) → Before o b s x l U
    → section_in x ≡ some sub → verdict_in x ≡ none → time_valid sub.time ≡ true
    → (U2 : List ℕ → Type 0) → ((n : List ℕ) → U2 n → U n × ((block position : ℕ) → n ≢ Own sub block position))
    → (mack_half s sub.prn sub.time sub.marks (header_of (hkroot_of (fields_of sub) 15)) (mack_of (fields_of sub) 15)).code ≡ 0
    → MackIs o b s x l U2 (mack_half s sub.prn sub.time sub.marks (header_of (hkroot_of (fields_of sub) 15)) (mack_of (fields_of sub) 15))
unfolding mack_half
mack_is o b s x l sub U new v section_is no_verdict tv U2 less =
    by_number (λ (m : MackDone). m.code ≡ 0 → MackIs o b s x l U2 m) (section_on s sub).code
    (λ e _. (let f = fit s sub e in rw f.same_proof (taken_is o b s x l sub U new v section_is no_verdict tv f U2 less)))
    (λ n e. absurd (n e))
