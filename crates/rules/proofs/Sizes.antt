-- Request P4 of 02: tags of 40 bits are judged as before it, and what holds of tags of every size. Assumes nothing.
use Prim.Native.Nat.{ℕ, zero, suc, ◌+◌, ◌-◌, ◌*◌, ◌≤◌, ◌<◌}
use mathlib.Core.Path.{◌≡◌, refl, sym, ◌∙◌, ap}
use mathlib.Core.Logic.{⊎_elim}
use mathlib.Core.Bool.{Bool, true, false, cond, not, ◌&&◌, ◌||◌}
use mathlib.Core.List.{List, [], ◌∷◌, ◌++◌}
use native.Mathlib.Nat.{le_refl}
use native.Mathlib.Omega.{arith}
use lib.Dec.{eqb, leb, ltb}
use lib.ListN.{length, get_or, set, replicate, length-set, get_or-replicate}
use lib.Seq.{ext_get_or, get_or-set_other}
use borrow.Author.Tests.{eqb-true, leb-false, ltb-false, lt-ltb, le-ltb, not-false}
use Rattle.laws.specs.Lists.{part, splice}
use Rattle.laws.specs.Refusal.{neb}
use Rattle.laws.proofs.Refusal.{by_test}
use Rattle.laws.proofs.Same.{same_true}
use Rattle.laws.proofs.Splice.{length_part, length_splice, get_d_part, part_first, either}
use Rattle.laws.proofs.Tests.{and_left, and_right, neither}
use Rattle.rules.specs.Bits.{any_of}
use Rattle.rules.specs.Calls.{chain_of, tags_worked}
use Rattle.rules.specs.Candidates.{SetPair, Agreement, later_stamp, set_entered, candidate_gone, candidate_held, on_set, on_candidate, authentic_bits, total_with, latest_with, summed, agreed, pair_at, sets_with, arrivals_with, candidates_cleared}
use Rattle.rules.specs.Chain.{Held}
use Rattle.rules.specs.Navdata.{set_of, usable}
use Rattle.rules.specs.Received.{field_lost, lost_tag, field_judged, fields_judged}
use Rattle.rules.specs.Sizes.{told_before, due_before, dues_before, own_before, field_before, fields_before, tags_before, NoCandidates, FortyBitTags, TagSizes}
use Rattle.rules.specs.State.{State, Nav, Auth, mark_of, prn_valid, waiting_count, satellites, sets_length, arrivals_length, entry_length, copy_length}
use Rattle.rules.specs.Tags.{Work, Section, names_satellite, told, told_plain, told_agreed, agreed_in, kept, entry_at, entry_tag, entry_set, is_due, tag_matches, due_judged, dues_judged, tag_entry, second_half, flexible, macseq_fits, not_allowed, own_tag, own_outcome, own_judged}
use Rattle.rules.specs.Times.{stamp_of, time_valid, delay_of}
use Rattle.rules.specs.declared.Chain.{Chain}
use Rattle.rules.specs.declared.Tag.{Tag}
use Rattle.rules.proofs.Agreements.{agreed_whole}
use Rattle.rules.proofs.Bounds.{prn_range, count_bound}
use Rattle.rules.proofs.Entries.{length_entry, length_entry_set}
use Rattle.rules.proofs.OwnTags.{outcome_one}
use Rattle.rules.proofs.PairPlaces.{pair_whole}
use Rattle.rules.proofs.Parts.{part_whole, length-set_of}
use Rattle.rules.proofs.Sound.{candidates_short}
use Rattle.rules.proofs.Written.{splice_back, set_back, new_set, new_stamp}

-- ---- one tag of 40 bits

-- "unless that set's tag came later": the bits of a satellite's set then, and the stamp of its tag
abbrev bits_before : ℕ → List ℕ → SetPair → List ℕ
bits_before stamp navdata p = cond (ltb stamp p.stamp) p.set navdata

abbrev stamp_before : ℕ → SetPair → ℕ
stamp_before stamp p = cond (ltb stamp p.stamp) p.stamp stamp

-- regions of the right lengths, without candidates
record Plain (w : Work) : Type 0 where
  sets_size : length w.sets ≡ sets_length
  arrivals_size : length w.arrivals ≡ arrivals_length
  none : NoCandidates w.arrivals

-- what such a tag leaves, by whether it is on the authentic set's bits
abbrev wide : Bool → ℕ → List ℕ → SetPair → Agreement
wide b stamp navdata p =
    cond b (record { outcome = 1; pair = set_entered stamp navdata p }) (record { outcome = 1; pair = candidate_gone (set_entered stamp navdata p) })

no_candidate : (navdata : List ℕ) (p : SetPair) → p.latest ≡ 0 → on_candidate navdata p ≡ false
unfolding on_candidate
no_candidate navdata p z = rw z refl

not_later : (stamp : ℕ) (p : SetPair) → p.latest ≡ 0 → ltb stamp p.latest ≡ false
not_later stamp p z = le-ltb stamp p.latest (omega arith)

wide_is : (stamp : ℕ) (navdata : List ℕ) (p : SetPair) → p.latest ≡ 0 → agreed 40 stamp navdata p ≡ wide (on_set navdata p) stamp navdata p
unfolding agreed summed total_with latest_with
wide_is stamp navdata p z = rw (no_candidate navdata p z, not_later stamp p z) refl

wide_outcome : (stamp : ℕ) (navdata : List ℕ) (p : SetPair) → p.latest ≡ 0 → (agreed 40 stamp navdata p).outcome ≡ 1
wide_outcome stamp navdata p z = rw (wide_is stamp navdata p z) (by_test (λ (r : Agreement). r.outcome ≡ 1) (on_set navdata p) (λ _. refl) (λ _. refl))

wide_set : (stamp : ℕ) (navdata : List ℕ) (p : SetPair) → p.latest ≡ 0 → (agreed 40 stamp navdata p).pair.set ≡ bits_before stamp navdata p
unfolding set_entered candidate_gone
wide_set stamp navdata p z =
    rw (wide_is stamp navdata p z) (by_test (λ (r : Agreement). r.pair.set ≡ bits_before stamp navdata p) (on_set navdata p) (λ _. refl) (λ _. refl))

wide_stamp : (stamp : ℕ) (navdata : List ℕ) (p : SetPair) → p.latest ≡ 0 → (agreed 40 stamp navdata p).pair.stamp ≡ stamp_before stamp p
unfolding set_entered candidate_gone later_stamp
wide_stamp stamp navdata p z =
    rw (wide_is stamp navdata p z) (by_test (λ (r : Agreement). r.pair.stamp ≡ stamp_before stamp p) (on_set navdata p) (λ _. refl) (λ _. refl))

wide_latest : (stamp : ℕ) (navdata : List ℕ) (p : SetPair) → p.latest ≡ 0 → (agreed 40 stamp navdata p).pair.latest ≡ 0
unfolding set_entered candidate_gone
wide_latest stamp navdata p z =
    rw (wide_is stamp navdata p z) (by_test (λ (r : Agreement). r.pair.latest ≡ 0) (on_set navdata p) (λ _. z) (λ _. refl))

wide_candidate : (stamp : ℕ) (navdata : List ℕ) (p : SetPair) → p.latest ≡ 0 → (agreed 40 stamp navdata p).pair.candidate ≡ p.candidate
unfolding set_entered candidate_gone
wide_candidate stamp navdata p z =
    rw (wide_is stamp navdata p z) (by_test (λ (r : Agreement). r.pair.candidate ≡ p.candidate) (on_set navdata p) (λ _. refl) (λ _. refl))

wide_total : (stamp : ℕ) (navdata : List ℕ) (p : SetPair) → p.latest ≡ 0 → p.total ≡ 0 → (agreed 40 stamp navdata p).pair.total ≡ 0
unfolding set_entered candidate_gone
wide_total stamp navdata p z y =
    rw (wide_is stamp navdata p z) (by_test (λ (r : Agreement). r.pair.total ≡ 0) (on_set navdata p) (λ _. y) (λ _. refl))

-- ---- such a tag in the regions

module _ (t : Tag) (navdata : List ℕ) (w : Work) (v : Plain w) (set-size : length navdata ≡ copy_length) (names : names_satellite t ≡ true) where
  abbrev i : ℕ
  i = t.prn - 1

  abbrev before : SetPair
  before = pair_at w.sets w.arrivals t.prn

  abbrev left : Agreement
  left = agreed 40 (stamp_of t.time) navdata before

  abbrev later : Bool
  later = ltb (stamp_of t.time) (get_or w.arrivals i 0)

  valid : prn_valid t.prn ≡ true
  unfolding names_satellite
  valid = and_left (prn_valid t.prn) (time_valid t.time) names

  low : i < 36
  low =
      let r = prn_range t.prn valid in
      let a = r.0 in
      let b = r.1 in
      omega arith

  no_latest : before.latest ≡ 0
  unfolding pair_at
  no_latest =
      let b = low in
      v.none (satellites + i) (omega arith) (omega arith)

  no_total : before.total ≡ 0
  unfolding pair_at
  no_total =
      let b = low in
      v.none (2 * satellites + i) (omega arith) (omega arith)

  sets_left : sets_with w.sets t.prn left.pair ≡ cond later w.sets (splice w.sets (i * copy_length) navdata)
  unfolding pair_at
  sets_left =
      let b = low in
      let z = v.sets_size in
      let whole = agreed_whole 40 (stamp_of t.time) navdata before set-size (pair_whole w.sets w.arrivals t.prn v.sets_size valid) in
      new_set w.sets w.arrivals t.prn v.sets_size v.arrivals_size valid left.pair whole.set (wide_candidate (stamp_of t.time) navdata before no_latest)
      ∙ ap (splice w.sets (i * copy_length)) (wide_set (stamp_of t.time) navdata before no_latest)
      ∙ go later
    where
      go : (b : Bool) → splice w.sets (i * copy_length) (cond b (part w.sets (i * copy_length) copy_length) navdata) ≡ cond b w.sets (splice w.sets (i * copy_length) navdata)
      go true =
          let b = low in
          let z = v.sets_size in
          splice_back w.sets (i * copy_length) copy_length (omega arith)
      go false = refl

  arrivals_left : arrivals_with w.arrivals t.prn left.pair ≡ cond later w.arrivals (set w.arrivals i (stamp_of t.time))
  unfolding pair_at
  arrivals_left =
      new_stamp w.sets w.arrivals t.prn v.sets_size v.arrivals_size valid left.pair
      (wide_latest (stamp_of t.time) navdata before no_latest ∙ sym no_latest) (wide_total (stamp_of t.time) navdata before no_latest no_total ∙ sym no_total)
      ∙ ap (set w.arrivals i) (wide_stamp (stamp_of t.time) navdata before no_latest)
      ∙ go later
    where
      go : (b : Bool) → set w.arrivals i (cond b (get_or w.arrivals i 0) (stamp_of t.time)) ≡ cond b w.arrivals (set w.arrivals i (stamp_of t.time))
      go true =
          let b = low in
          let z = v.arrivals_size in
          set_back w.arrivals i (omega arith)
      go false = refl

  agrees : told 40 1 t navdata w ≡ told_before 1 t navdata w
  unfolding told told_agreed agreed_in told_before
  agrees = rw (names, sets_left, arrivals_left, wide_outcome (stamp_of t.time) navdata before no_latest) refl

  -- what was written before lies in the first 36 places
  put_none : (b : Bool) → NoCandidates (cond b w.arrivals (set w.arrivals i (stamp_of t.time)))
  put_none true k h g = v.none k h g
  put_none false k h g =
      let b = low in
      get_or-set_other w.arrivals i k (stamp_of t.time) 0 (λ z. absurd (omega (arith, z))) ∙ v.none k h g

  still_plain : (found : ℕ) → Plain (told_before found t navdata w)
  unfolding told_before
  still_plain found =
      let b = low in
      let z = v.sets_size in
      record {
        sets_size =
            by_test (λ (d : List ℕ). length d ≡ sets_length) (eqb found 1)
            (λ _. by_test (λ (d : List ℕ). length d ≡ sets_length) later (λ _. v.sets_size) (λ _. length_splice w.sets (i * copy_length) navdata (omega arith) ∙ v.sets_size))
            (λ _. v.sets_size);
        arrivals_size =
            by_test (λ (d : List ℕ). length d ≡ arrivals_length) (eqb found 1)
            (λ _. by_test (λ (d : List ℕ). length d ≡ arrivals_length) later (λ _. v.arrivals_size) (λ _. length-set w.arrivals i (stamp_of t.time) ∙ v.arrivals_size))
            (λ _. v.arrivals_size);
        none = by_test NoCandidates (eqb found 1) (λ _. put_none later) (λ _. v.none);
      }

-- what the tags leave is what they left before, and there is no candidate
abbrev Same : Work → Work → Type 0
Same a b = (a ≡ b) × Plain b

told_other : (ms found : ℕ) (t : Tag) (navdata : List ℕ) (w : Work) → eqb found 1 ≡ false → Plain w → Same (told ms found t navdata w) (told_before found t navdata w)
unfolding told told_plain told_before
told_other ms found t navdata w e v = rw e (refl, record { sets_size = v.sets_size; arrivals_size = v.arrivals_size; none = v.none })

told_same : (ms : ℕ) → ms ≡ 40 → (found : ℕ) (t : Tag) (navdata : List ℕ) (w : Work) → (found ≡ 1 → (length navdata ≡ copy_length) × (names_satellite t ≡ true)) → Plain w
    → Same (told ms found t navdata w) (told_before found t navdata w)
told_same ms size found t navdata w h v =
    ⊎_elim
    (λ e. (
    let one = eqb-true found 1 e in
    let q = h one in
    rw (size, one) (agrees t navdata w v q.0 q.1, still_plain t navdata w v q.0 q.1 1)
    ))
    (λ e. told_other ms found t navdata w e v)
    (either (eqb found 1))

kept-plain : (e : List ℕ) (w : Work) → Plain w → Plain (kept e w)
unfolding kept
kept-plain e w v = record { sets_size = v.sets_size; arrivals_size = v.arrivals_size; none = v.none }

-- ---- the tags of a section

module _ (c : Chain) (size : c.ms ≡ 40) (h : Held) where
  due_same : (e : List ℕ) (w : Work) → length e ≡ entry_length → names_satellite (entry_tag e) ≡ true → Plain w → Same (due_judged c h e w) (due_before c h e w)
  unfolding due_judged due_before
  due_same e w l n v = go (is_due c h (entry_tag e)) (cond (tag_matches c h false (entry_tag e) (entry_set e)) 1 2)
    where
      go : (b : Bool) (found : ℕ) → Same (cond b (told c.ms found (entry_tag e) (entry_set e) w) (kept e w)) (cond b (told_before found (entry_tag e) (entry_set e) w) (kept e w))
      go true found = told_same c.ms size found (entry_tag e) (entry_set e) w (λ _. (length_entry_set e l, n)) v
      go false found = (refl, kept-plain e w v)

  dues_same : (waiting : List ℕ) (n : ℕ) (w : Work) → n * entry_length ≤ length waiting → ((k : ℕ) → k < n → names_satellite (entry_tag (entry_at waiting k)) ≡ true) → Plain w
      → Same (dues_judged c h waiting n w) (dues_before c h waiting n w)
  unfolding dues_judged dues_before
  dues_same waiting zero w l named v = (refl, v)
  dues_same waiting (suc m) w l named v =
      let r = dues_same waiting m w (omega arith) (λ k g. named k (omega arith)) v in
      let d = due_same (entry_at waiting m) (dues_before c h waiting m w) (length_entry waiting m (omega arith)) (named m (omega arith)) r.1 in
      (ap (due_judged c h (entry_at waiting m)) r.0 ∙ d.0, d.1)

  module _ (config : List ℕ) (nav : Nav) (x : Section) (marks : ℕ) (time : time_valid x.time ≡ true) where
    -- outcome 1: the tag is allowed, so it names a satellite
    allowed_prn : (j : ℕ) (t : Tag) → not_allowed config j t ≡ false → prn_valid t.prn ≡ true
    unfolding not_allowed
    allowed_prn j t a =
        let p = neither (not (any_of (eqb t.adkd 0 ∷ eqb t.adkd 11 ∷ eqb t.adkd 12 ∷ []))) _ a in
        let q = neither (not (flexible config t.time j) && neb t.adkd (mark_of config (second_half t.time) j)) (not (prn_valid t.prn) || false) p.1 in
        not-false (prn_valid t.prn) (neither (not (prn_valid t.prn)) false q.1).0

    own_time : (j : ℕ) → time_valid (own_tag c x j).time ≡ true
    unfolding own_tag
    own_time j = time

    one_named : (j count : ℕ) → own_outcome config nav c h x j count ≡ 1 → names_satellite (own_tag c x j) ≡ true
    unfolding own_outcome names_satellite
    one_named j count e =
        let t = own_tag c x j in
        let q =
        outcome_one (not_allowed config j t) (flexible config t.time j && not (macseq_fits config c h x)) (not (usable nav t.prn t.time))
        (eqb (delay_of t.adkd) 0 && tag_matches c h (eqb j 0) t (set_of nav.words t.prn)) (eqb (delay_of t.adkd) 0) (ltb count 256) e in
        rw (allowed_prn j t q.0, own_time j) refl

    own_same : (j : ℕ) (w : Work) → Plain w → Same (own_judged config nav c h x j w) (own_before config nav c h x j w)
    unfolding own_judged own_before
    own_same j w v = go (eqb (own_outcome config nav c h x j w.count) 5)
      where
        one : Same (told c.ms (own_outcome config nav c h x j w.count) (own_tag c x j) (set_of nav.words (own_tag c x j).prn) w) (told_before (own_outcome config nav c h x j w.count) (own_tag c x j) (set_of nav.words (own_tag c x j).prn) w)
        one = told_same c.ms size _ (own_tag c x j) _ w (λ e. (length-set_of nav.words (own_tag c x j).prn, one_named j w.count e)) v

        go : (b : Bool)
            → Same
            (cond b (kept (tag_entry (own_tag c x j) (set_of nav.words (own_tag c x j).prn)) (told c.ms (own_outcome config nav c h x j w.count) (own_tag c x j) (set_of nav.words (own_tag c x j).prn) w))
            (told c.ms (own_outcome config nav c h x j w.count) (own_tag c x j) (set_of nav.words (own_tag c x j).prn) w))
            (cond b (kept (tag_entry (own_tag c x j) (set_of nav.words (own_tag c x j).prn)) (told_before (own_outcome config nav c h x j w.count) (own_tag c x j) (set_of nav.words (own_tag c x j).prn) w))
            (told_before (own_outcome config nav c h x j w.count) (own_tag c x j) (set_of nav.words (own_tag c x j).prn) w))
        go true = (ap (kept (tag_entry (own_tag c x j) (set_of nav.words (own_tag c x j).prn))) one.0, kept-plain _ _ one.1)
        go false = one

    field_same : (j : ℕ) (w : Work) → Plain w → Same (field_judged config nav c h x marks j w) (field_before config nav c h x marks j w)
    unfolding field_judged field_before
    field_same j w v = go (field_lost config c x.time marks j)
      where
        go : (b : Bool) → Same (cond b (told c.ms 8 (lost_tag c x marks j) [] w) (own_judged config nav c h x j w)) (cond b (told_before 8 (lost_tag c x marks j) [] w) (own_before config nav c h x j w))
        go true = told_other c.ms 8 (lost_tag c x marks j) [] w refl v
        go false = own_same j w v

    fields_same : (n : ℕ) (w : Work) → Plain w → Same (fields_judged config nav c h x marks n w) (fields_before config nav c h x marks n w)
    unfolding fields_judged fields_before
    fields_same zero w v = (refl, v)
    fields_same (suc j) w v =
        let r = fields_same j w v in
        let d = field_same j (fields_before config nav c h x marks j w) r.1 in
        (ap (field_judged config nav c h x marks j) r.0 ∙ d.0, d.1)

wide_same : (s : State) (h : Held) (x : Section) (marks : ℕ) → FortyBitTags s x → Same (tags_worked s h x marks) (tags_before s h x marks)
unfolding tags_worked tags_before
wide_same s h x marks f =
    let c = chain_of s in
    let few = count_bound s.tesla.numbers in
    let long = f.waiting_size in
    let d =
    dues_same c f.size h s.tesla.waiting (waiting_count s.tesla.numbers) (record { kept = []; count = 0; sets = s.auth.sets; arrivals = s.auth.arrivals; records = [] }) (omega arith) f.named
    (record { sets_size = f.sets_size; arrivals_size = f.arrivals_size; none = f.none }) in
    let g = fields_same c f.size h s.config s.nav x marks f.time (c.nmack * c.fields) _ d.1 in
    (ap (fields_judged s.config s.nav c h x marks (c.nmack * c.fields)) d.0 ∙ g.0, g.1)

wide_none : (s : State) (h : Held) (x : Section) (marks : ℕ) → FortyBitTags s x → NoCandidates (tags_worked s h x marks).arrivals
wide_none s h x marks f = let q = wide_same s h x marks f in rw q.0 q.1.none

-- ---- tags of every size

on_set_law : (ms stamp : ℕ) (navdata : List ℕ) (p : SetPair) → on_set navdata p ≡ true → (agreed ms stamp navdata p).outcome ≡ 1
unfolding agreed
on_set_law ms stamp navdata p h = rw h refl

moves_on : (ms stamp : ℕ) (navdata : List ℕ) (p : SetPair) → on_set navdata p ≡ true → (agreed ms stamp navdata p).pair.stamp ≡ later_stamp p.stamp stamp
unfolding agreed set_entered
moves_on ms stamp navdata p h = rw h refl

untouched : (ms stamp : ℕ) (navdata : List ℕ) (p : SetPair) → on_set navdata p ≡ true → (agreed ms stamp navdata p).pair.candidate ≡ p.candidate
unfolding agreed set_entered
untouched ms stamp navdata p h = rw h refl

untouched_latest : (ms stamp : ℕ) (navdata : List ℕ) (p : SetPair) → on_set navdata p ≡ true → (agreed ms stamp navdata p).pair.latest ≡ p.latest
unfolding agreed set_entered
untouched_latest ms stamp navdata p h = rw h refl

untouched_total : (ms stamp : ℕ) (navdata : List ℕ) (p : SetPair) → on_set navdata p ≡ true → (agreed ms stamp navdata p).pair.total ≡ p.total
unfolding agreed set_entered
untouched_total ms stamp navdata p h = rw h refl

entered_newest : (stamp : ℕ) (navdata : List ℕ) (p : SetPair) → p.stamp ≤ (set_entered stamp navdata p).stamp
unfolding set_entered later_stamp
entered_newest stamp navdata p = by_test (λ (n : ℕ). p.stamp ≤ n) (ltb stamp p.stamp) (λ _. le_refl p.stamp) (λ e. ltb-false stamp p.stamp e)

entered_newer : (stamp : ℕ) (navdata : List ℕ) (p : SetPair) → stamp < p.stamp → (set_entered stamp navdata p).set ≡ p.set
unfolding set_entered
entered_newer stamp navdata p h = rw (lt-ltb stamp p.stamp h) refl

-- a set that is entered where it is already
entered_same : (stamp : ℕ) (navdata : List ℕ) (p : SetPair) → on_set navdata p ≡ true → (set_entered stamp navdata p).set ≡ p.set
unfolding set_entered on_set
entered_same stamp navdata p h =
    by_test (λ (d : List ℕ). d ≡ p.set) (ltb stamp p.stamp) (λ _. refl) (λ _. sym (same_true p.set navdata (and_right (not (eqb p.stamp 0)) _ h)))

newer_stays : (ms stamp : ℕ) (navdata : List ℕ) (p : SetPair) → latest_with stamp navdata p < p.stamp → (agreed ms stamp navdata p).pair.set ≡ p.set
unfolding agreed summed candidate_gone candidate_held
newer_stays ms stamp navdata p h =
    let P : Agreement → Type 0 = λ r. r.pair.set ≡ p.set in
    by_test P (on_set navdata p) (λ e. entered_same stamp navdata p e)
    (λ _.
    by_test P (not (on_candidate navdata p) && ltb stamp p.latest) (λ _. refl)
    (λ _. by_test P (leb authentic_bits (total_with ms navdata p)) (λ _. entered_newer (latest_with stamp navdata p) navdata p h) (λ _. refl)))

newest : (ms stamp : ℕ) (navdata : List ℕ) (p : SetPair) → p.stamp ≤ (agreed ms stamp navdata p).pair.stamp
unfolding agreed summed candidate_gone candidate_held
newest ms stamp navdata p =
    let P : Agreement → Type 0 = λ r. p.stamp ≤ r.pair.stamp in
    by_test P (on_set navdata p) (λ _. entered_newest stamp navdata p)
    (λ _.
    by_test P (not (on_candidate navdata p) && ltb stamp p.latest) (λ _. le_refl p.stamp)
    (λ _. by_test P (leb 40 (total_with ms navdata p)) (λ _. entered_newest (latest_with stamp navdata p) navdata p) (λ _. le_refl p.stamp)))

still_short : (ms stamp : ℕ) (navdata : List ℕ) (p : SetPair) → p.total < 40 → (agreed ms stamp navdata p).pair.total < 40
unfolding agreed summed candidate_gone candidate_held set_entered
still_short ms stamp navdata p h =
    let P : Agreement → Type 0 = λ r. r.pair.total < 40 in
    by_test P (on_set navdata p) (λ _. h)
    (λ _.
    by_test P (not (on_candidate navdata p) && ltb stamp p.latest) (λ _. h)
    (λ _. by_test P (leb 40 (total_with ms navdata p)) (λ _. omega arith) (λ e. leb-false 40 (total_with ms navdata p) e)))

stays_told : (ms found : ℕ) (t : Tag) (navdata : List ℕ) (w : Work) → part (told ms found t navdata w).records 0 (length w.records) ≡ w.records
unfolding told told_plain told_agreed
stays_told ms found t navdata w =
    let P : Work → Type 0 = λ v. part v.records 0 (length w.records) ≡ w.records in
    by_test P (eqb found 1) (λ _. by_test P (names_satellite t) (λ _. first w.records _) (λ _. first w.records _)) (λ _. first w.records _)
  where
    first : (a b : List ℕ) → part (a ++ b) 0 (length a) ≡ a
    first a b = part_first a b 0 (length a) (omega arith) ∙ part_whole a (length a) refl

-- ---- no candidate

none_cleared : (a : Auth) → length a.arrivals ≡ arrivals_length → NoCandidates a.arrivals → candidates_cleared a ≡ a
unfolding candidates_cleared
none_cleared a size none =
    ap (λ (d : List ℕ). record { sets = a.sets; arrivals = d })
    (ap (splice a.arrivals satellites) (ext_get_or 0 (replicate 72 0) (part a.arrivals satellites 72) (sym long) (λ i k. zero_at i k))
    ∙ splice_back a.arrivals satellites 72 (omega arith))
  where
    long : length (part a.arrivals satellites 72) ≡ 72
    long = length_part a.arrivals satellites 72 (omega arith)

    zero_at : (i : ℕ) → i < 72 → get_or (replicate 72 0) i 0 ≡ get_or (part a.arrivals satellites 72) i 0
    zero_at i k = get_or-replicate 72 i 0 0 k ∙ sym (get_d_part a.arrivals satellites 72 i k ∙ none (satellites + i) (omega arith) (omega arith))

pub tag_sizes : TagSizes
tag_sizes =
    record {
      wide = λ s h x marks f. (wide_same s h x marks f).0;
      wide_none = wide_none;
      stays_told = stays_told;
      on_set_law = on_set_law;
      moves_on = moves_on;
      untouched = untouched;
      untouched_latest = untouched_latest;
      untouched_total = untouched_total;
      newer_stays = newer_stays;
      newest = newest;
      short = candidates_short;
      still_short = still_short;
      none_cleared = none_cleared;
    }
