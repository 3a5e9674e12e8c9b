-- The section's own tags: one of outcome 1 arrived here and has the four things, one of outcome 5 arrived here and waits with its set.
use Prim.Native.Nat.{ℕ, zero, suc, ◌+◌, ◌*◌, ◌/◌, ◌%◌, ◌^◌, ◌≤◌, ◌<◌}
use mathlib.Core.Path.{◌≡◌, refl, sym, ◌∙◌, ap}
use mathlib.Core.Logic.{◌≢◌}
use mathlib.Core.Bool.{Bool, true, false, cond, ◌&&◌, ◌||◌, not}
use mathlib.Core.List.{List, [], ◌∷◌}
use native.Mathlib.Nat.{div-add-mod, div-lt_iff_lt-mul, le_trans, mul-zero, zero-lt-suc, zero-mod}
use native.Mathlib.Omega.{arith}
use lib.Dec.{eqb, ltb}
use lib.ListN.{get_or}
use lib.Pow.{pow_mono}
use borrow.Author.Tests.{eqb-true, not-false}
use Rattle.laws.specs.Refusal.{neb}
use Rattle.laws.proofs.Refusal.{by_test}
use Rattle.laws.proofs.Tests.{and_left, and_right, neither}
use Rattle.rules.specs.Bits.{any_of}
use Rattle.rules.specs.Calls.{Start, Subframe, fields_of}
use Rattle.rules.specs.Chain.{Held, key_slot, sent_slot}
use Rattle.rules.specs.Claim.{Arrived, FourThings, tag_name, contents_by, chain_by, section_of, slot_of_tag, set_in, usable_in}
use Rattle.rules.specs.Gather.{header_of, hkroot_of, mack_of}
use Rattle.rules.specs.Kroot.{chain_with, tag_width, ms_of, root_seconds_of}
use Rattle.rules.specs.Log.{Entry, Log, here, last_word, chain_turns}
use Rattle.rules.specs.Mack.{field_tag}
use Rattle.rules.specs.Navdata.{word_came, usable, set_of}
use Rattle.rules.specs.Received.{key_came, field_lost, lost_tag, field_judged, fields_judged}
use Rattle.rules.specs.State.{State, Nav, prn_valid, mark_of, copy_length}
use Rattle.rules.specs.Tags.{Work, told, own_tag, own_outcome, own_judged, not_allowed, flexible, second_half, macseq_fits, tag_matches, tag_entry, entry_tag}
use Rattle.rules.specs.Times.{seconds_of, key_seconds, delay_of, time_valid, tag_slot, lowest_slot, slot_of}
use Rattle.rules.specs.Verdict.{Verdict}
use Rattle.rules.specs.declared.Chain.{Chain}
use Rattle.rules.specs.declared.Tag.{Tag}
use Rattle.rules.proofs.Bounds.{bits_lt, prn_range, status_bound, tag_width_bound, time_bound}
use Rattle.rules.proofs.Choices.{no}
use Rattle.rules.proofs.DueTags.{SectionIs, matched_by}
use Rattle.rules.proofs.Entries.{entry_tag_lem, entry_set_lem, length_tag_entry}
use Rattle.rules.proofs.Invariant.{WordsAre, Place, WaitIs}
use Rattle.rules.proofs.Parts.{length-set_of}
use Rattle.rules.proofs.Received.{not_lost_key, not_lost_tag, not_lost_info}
use Rattle.rules.proofs.TagRecords.{WorkIs, work_less, told_plain_lem, told_is, kept_is}
use Rattle.rules.proofs.Unchanged.{unchanged_refl}

-- ---- outcomes

pub outcome_one : (a b c d e f : Bool) → ◌≡◌ {A = ℕ} (cond a 4 (cond b 6 (cond c 3 (cond d 1 (cond e 2 (cond f 5 7)))))) 1 → (a ≡ false) × ((c ≡ false) × (d ≡ true))
outcome_one true b c d e f h = absurd (omega (arith, h))
outcome_one false true c d e f h = absurd (omega (arith, h))
outcome_one false false true d e f h = absurd (omega (arith, h))
outcome_one false false false true e f h = (refl, (refl, refl))
outcome_one false false false false true f h = absurd (omega (arith, h))
outcome_one false false false false false true h = absurd (omega (arith, h))
outcome_one false false false false false false h = absurd (omega (arith, h))

outcome_five : (a b c d e f : Bool) → ◌≡◌ {A = ℕ} (cond a 4 (cond b 6 (cond c 3 (cond d 1 (cond e 2 (cond f 5 7)))))) 5 → (a ≡ false) × ((c ≡ false) × (e ≡ false))
outcome_five true b c d e f h = absurd (omega (arith, h))
outcome_five false true c d e f h = absurd (omega (arith, h))
outcome_five false false true d e f h = absurd (omega (arith, h))
outcome_five false false false true e f h = absurd (omega (arith, h))
outcome_five false false false false true f h = absurd (omega (arith, h))
outcome_five false false false false false f h = (refl, (refl, refl))

-- ---- the satellite's set is the one of the history

place : (prn kind : ℕ) → prn_valid prn ≡ true → 1 ≤ kind → kind ≤ 5 → Place prn kind
place prn kind e a b = let p = prn_range prn e in record { prn_low = p.0; prn_high = p.1; kind_low = a; kind_high = b }

module _ (n : Nav) (l : Log) (prn : ℕ) (v : WordsAre n l) (p : prn_valid prn ≡ true) where
  came_is : (kind : ℕ) → 1 ≤ kind → kind ≤ 5 → word_came n prn kind ≡ last_word l prn kind
  unfolding word_came
  came_is kind a b = let q = place prn kind p a b in rw (v.bytes prn kind q, v.stamps prn kind q) refl

  usable_in_lem : (time : ℕ) → usable n prn time ≡ true → usable_in l prn time ≡ true
  unfolding usable
  usable_in_lem time u =
      rw (
        sym (came_is 1 (omega arith) (omega arith)),
        sym (came_is 2 (omega arith) (omega arith)),
        sym (came_is 3 (omega arith) (omega arith)),
        sym (came_is 4 (omega arith) (omega arith)),
        sym (came_is 5 (omega arith) (omega arith)),
      ) u

  set_in_lem : set_of n.words prn ≡ set_in l prn
  unfolding set_of
  set_in_lem =
      rw (
        v.bytes prn 1 (place prn 1 p (omega arith) (omega arith)),
        v.bytes prn 2 (place prn 2 p (omega arith) (omega arith)),
        v.bytes prn 3 (place prn 3 p (omega arith) (omega arith)),
        v.bytes prn 4 (place prn 4 p (omega arith) (omega arith)),
        v.bytes prn 5 (place prn 5 p (omega arith) (omega arith)),
      ) refl

-- ---- slots

not_before_key : (root g adkd : ℕ) → root ≤ seconds_of g → root ≤ key_seconds g adkd
unfolding key_seconds
not_before_key root g adkd h = omega arith

-- a tag without delay has its key in its own block
own_slot : (c : Chain) (g b adkd prn : ℕ) → delay_of adkd ≡ 0 → key_slot c g b adkd ≤ sent_slot c g b prn
unfolding key_slot tag_slot lowest_slot sent_slot slot_of key_seconds
own_slot c g b adkd prn d =
    let e : seconds_of g + 30 * delay_of adkd ≡ seconds_of g = omega arith in
    let z = zero-mod c.ns in
    rw (e, z) (omega arith)

block_in : (j nmack fields : ℕ) → j < nmack * fields → j / fields < nmack
block_in j nmack zero h = absurd (let z = mul-zero nmack in omega arith)
block_in j nmack (suc f) h = (div-lt_iff_lt-mul (zero-lt-suc f)).1 h

-- ---- a field of the section

-- the names that are new to the section, and none of its first n tags'
abbrev pub UnheardOf : (List ℕ → Type 0) → Chain → Subframe → ℕ → List ℕ → Type 0
UnheardOf U c sub n m = U m × ((i : ℕ) → i < n → m ≢ tag_name (own_tag c (section_of sub) i))

module _ (o : Start) (b : State) (said : Verdict) (h : Held) (x : Entry) (l : Log) (sub : Subframe) (v : SectionIs o b said h x l sub)
    (config : List ℕ) (nav : Nav) (words : WordsAre nav l) (not_before : root_seconds_of (contents_by said) ≤ seconds_of sub.time)
    (reached : (k : ℕ) → k < (chain_by o said).nmack → key_came (chain_by o said) sub.marks (suc k) ≡ true → sent_slot (chain_by o said) sub.time (suc k) sub.prn ≤ h.slot)
    (time-valid : time_valid sub.time ≡ true) (U : List ℕ → Type 0) (new : (block position : ℕ) → U (sub.prn ∷ sub.time ∷ block ∷ position ∷ [])) where
  abbrev chain : Chain
  chain = chain_by o said

  -- the tag in field j, its satellite's set, and its outcome
  abbrev tag_at : ℕ → Tag
  tag_at j = own_tag chain (section_of sub) j

  abbrev set_at : ℕ → List ℕ
  set_at j = set_of nav.words (tag_at j).prn

  abbrev outcomeAt : ℕ → ℕ → ℕ
  outcomeAt j count = own_outcome config nav chain h (section_of sub) j count

  abbrev Unheard : ℕ → List ℕ → Type 0
  Unheard n = UnheardOf U chain sub n

  -- a field is told by its block and position
  fields_apart : (i j : ℕ) → i ≢ j → tag_name (tag_at j) ≢ tag_name (tag_at i)
  unfolding own_tag
  fields_apart i j d e =
      let f = chain.fields in
      let a : j / f + 1 ≡ i / f + 1 = ap (λ (n : List ℕ). get_or n 2 0) e in
      let c : j % f + 1 ≡ i % f + 1 = ap (λ (n : List ℕ). get_or n 3 0) e in
      let q : j / f ≡ i / f = omega arith in
      let r : j % f ≡ i % f = omega arith in
      d (sym (div-add-mod i f) ∙ ap (λ (z : ℕ). f * z + i % f) (sym q) ∙ ap (λ (z : ℕ). f * (j / f) + z) (sym r) ∙ div-add-mod j f)

  unheard : (j : ℕ) → j < (chain_by o said).nmack * (chain_by o said).fields → Unheard j (tag_name (tag_at j))
  unfolding own_tag
  unheard j in_section = (new _ _, λ i g. fields_apart i j (λ z. absurd (omega (arith, z, g))))

  unheard_less : (j : ℕ) (m : List ℕ) → Unheard (suc j) m → Unheard j m × (m ≢ tag_name (tag_at j))
  unheard_less j m u = ((u.0, λ i g. u.1 i (omega arith)), u.1 j (omega arith))

  module _ (j : ℕ) (in_section : j < (chain_by o said).nmack * (chain_by o said).fields) (came : field_lost config (chain_by o said) sub.time sub.marks j ≡ false) where
    tag_time : (tag_at j).time ≡ sub.time
    unfolding own_tag
    tag_time = refl

    -- the tag arrives here
    arrived_here : not_allowed config j (tag_at j) ≡ false → not (usable nav (tag_at j).prn (tag_at j).time) ≡ false → Arrived o said (chain_turns (x ∷ l)) (tag_at j) (eqb j 0) (set_at j) x l
    unfolding not_allowed
    arrived_here allowed u =
        let a = neither (not (any_of (eqb (tag_at j).adkd 0 ∷ eqb (tag_at j).adkd 11 ∷ eqb (tag_at j).adkd 12 ∷ []))) _ allowed in
        let c = neither (not (flexible config (tag_at j).time j) && neb (tag_at j).adkd (mark_of config (second_half (tag_at j).time) j)) (not (prn_valid (tag_at j).prn) || false) a.1 in
        let p = not-false (prn_valid (tag_at j).prn) (neither (not (prn_valid (tag_at j).prn)) false c.1).0 in
        let q : usable nav (tag_at j).prn sub.time ≡ true = ap (usable nav (tag_at j).prn) (sym tag_time) ∙ not-false _ u in
        record {
          sub = sub;
          section_is = v.section_is;
          in_force_law = v.in_force_law;
          turn_is = refl;
          field = j;
          in_section = in_section;
          tag_is = refl;
          tag_came_law = not_lost_tag config chain sub.time sub.marks j came;
          info_came_law = not_lost_info config chain sub.time sub.marks j in_section came;
          first_is = refl;
          kind = not-false _ a.0;
          heard = p;
          usable = usable_in_lem nav l (tag_at j).prn words p sub.time q;
          set_is = set_in_lem nav l (tag_at j).prn words p;
        }

    own_not_before : root_seconds_of (contents_by said) ≤ key_seconds (tag_at j).time (tag_at j).adkd
    own_not_before = rw tag_time (not_before_key (root_seconds_of (contents_by said)) sub.time (tag_at j).adkd not_before)

    key_reached : eqb (delay_of (tag_at j).adkd) 0 ≡ true → slot_of_tag chain (tag_at j) ≤ h.slot
    unfolding own_tag
    key_reached d =
        let k = block_in j chain.nmack chain.fields in_section in
        let e : j / chain.fields + 1 ≡ suc (j / chain.fields) = omega arith in
        let s = own_slot chain sub.time (suc (j / chain.fields)) (tag_at j).adkd sub.prn (eqb-true (delay_of (tag_at j).adkd) 0 d) in
        rw e (le_trans s (reached (j / chain.fields) k (ap (key_came chain sub.marks) (sym e) ∙ not_lost_key config chain sub.time sub.marks j came)))

    -- outcome 1: neither 4 nor 3 applies, and the tag matches
    one_four : (count : ℕ) → outcomeAt j count ≡ 1 → FourThings o b (tag_at j) (set_at j) x l
    unfolding own_outcome
    one_four count e =
        let q =
        outcome_one (not_allowed config j (tag_at j)) (flexible config (tag_at j).time j && not (macseq_fits config chain h (section_of sub))) (not (usable nav (tag_at j).prn (tag_at j).time))
        (eqb (delay_of (tag_at j).adkd) 0 && tag_matches chain h (eqb j 0) (tag_at j) (set_at j)) (eqb (delay_of (tag_at j).adkd) 0) (ltb count 256) e in
        let d = and_left (eqb (delay_of (tag_at j).adkd) 0) _ q.1.1 in
        let m = and_right (eqb (delay_of (tag_at j).adkd) 0) _ q.1.1 in
        matched_by o b said h x l sub v said (tag_at j) (eqb j 0) (set_at j) (here (arrived_here q.0 q.1.0)) (unchanged_refl (contents_by said)) own_not_before (key_reached d) m

    -- a tag with delay is not the first of its section
    not_first : (z : Bool) → eqb j 0 ≡ z → eqb (delay_of (tag_at j).adkd) 0 ≡ false → z ≡ false
    unfolding own_tag delay_of
    not_first false e d = refl
    not_first true e d = no d (rw e refl)

    tag_small : ((tag_at j).time < 2 ^ 32) × (((tag_at j).status < 4) × ((tag_at j).bits < 2 ^ 40))
    unfolding own_tag field_tag chain_with
    tag_small =
        let n = tag_width_bound (ms_of (contents_by said)) in
        (time_bound sub.time time-valid, (status_bound (header_of (hkroot_of (fields_of sub) 15)), le_trans (bits_lt (mack_of (fields_of sub) 15) _ (tag_width (ms_of (contents_by said)))) (pow_mono n)))

    -- outcome 5: neither 4 nor 3 applies, and the tag has a delay
    five_waits : (count : ℕ) → outcomeAt j count ≡ 5 → WaitIs o (contents_by said) (tag_entry (tag_at j) (set_at j)) (x ∷ l)
    unfolding own_outcome
    five_waits count e =
        let q =
        outcome_five (not_allowed config j (tag_at j)) (flexible config (tag_at j).time j && not (macseq_fits config chain h (section_of sub))) (not (usable nav (tag_at j).prn (tag_at j).time))
        (eqb (delay_of (tag_at j).adkd) 0 && tag_matches chain h (eqb j 0) (tag_at j) (set_at j)) (eqb (delay_of (tag_at j).adkd) 0) (ltb count 256) e in
        let a = arrived_here q.0 q.1.0 in
        let f : eqb j 0 ≡ false = not_first (eqb j 0) refl q.1.1 in
        let t = entry_tag_lem (tag_at j) (set_at j) tag_small.0 tag_small.1.0 tag_small.1.1 in
        let s = entry_set_lem (tag_at j) (set_at j) (length-set_of nav.words (tag_at j).prn) in
        record { by = said; arrived = rw (t, s) (here (rw f at a)); unchanged = unchanged_refl (contents_by said); not_before = rw t own_not_before }

    -- what is kept of it has its name
    kept_name : tag_name (entry_tag (tag_entry (tag_at j) (set_at j))) ≡ tag_name (tag_at j)
    kept_name = ap tag_name (entry_tag_lem (tag_at j) (set_at j) tag_small.0 tag_small.1.0 tag_small.1.1)

    own_is : (w : Work) → WorkIs o b said x l (Unheard j) w → WorkIs o b said x l (Unheard (suc j)) (own_judged config nav chain h (section_of sub) j w)
    unfolding own_judged
    own_is w k =
        let size = length-set_of nav.words (tag_at j).prn in
        let new = unheard j in_section in
        by_test (WorkIs o b said x l (Unheard (suc j))) (eqb (outcomeAt j w.count) 5)
        (λ e. (
        let five = eqb-true (outcomeAt j w.count) 5 e in
        kept_is o b said x l v.in_force_law (Unheard j) (Unheard (suc j)) (tag_entry (tag_at j) (set_at j)) _
        (told_plain_lem o b said x l v.in_force_law (Unheard j) (outcomeAt j w.count) (tag_at j) (set_at j) w k (λ one. absurd (omega (arith, five, one))))
        (length_tag_entry (tag_at j) (set_at j) size) (five_waits w.count five) (rw kept_name new) (rw kept_name (unheard_less j))
        ))
        (λ _. told_is o b said x l v.in_force_law (Unheard j) (Unheard (suc j)) (outcomeAt j w.count) (tag_at j) (set_at j) w k size (one_four w.count) new (unheard_less j))

  -- outcome 8 marks nothing
  lost_is : (U : List ℕ → Type 0) (j : ℕ) (w : Work) → WorkIs o b said x l U w → WorkIs o b said x l U (told chain.ms 8 (lost_tag chain (section_of sub) sub.marks j) [] w)
  lost_is U j w k = told_plain_lem o b said x l v.in_force_law U 8 (lost_tag chain (section_of sub) sub.marks j) [] w k (λ e. absurd (omega (arith, e)))

  field_is : (j : ℕ) (w : Work) → j < (chain_by o said).nmack * (chain_by o said).fields → WorkIs o b said x l (Unheard j) w
      → WorkIs o b said x l (Unheard (suc j)) (field_judged config nav chain h (section_of sub) sub.marks j w)
  unfolding field_judged
  field_is j w in_section k =
      by_test (WorkIs o b said x l (Unheard (suc j))) (field_lost config chain sub.time sub.marks j)
      (λ _. lost_is (Unheard (suc j)) j w (work_less o b said x l v.in_force_law (Unheard j) (Unheard (suc j)) w (λ m u. (unheard_less j m u).0) k))
      (λ came. own_is j in_section came w k)

  pub fields_are : (n : ℕ) (w : Work) → n ≤ (chain_by o said).nmack * (chain_by o said).fields → WorkIs o b said x l U w
      → WorkIs o b said x l (Unheard n) (fields_judged config nav chain h (section_of sub) sub.marks n w)
  unfolding fields_judged
  fields_are zero w le k = work_less o b said x l v.in_force_law U (Unheard 0) w (λ m u. u.0) k
  fields_are (suc j) w le k = field_is j (fields_judged config nav chain h (section_of sub) sub.marks j w) (omega arith) (fields_are j w (omega arith) k)
