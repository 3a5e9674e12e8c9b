-- The tags of a section answered 0, one after the other: where each one that agrees has the four things and was not judged before, every record of
-- outcome 1 and every authentic set has its forty bits, and every candidate the bits of its total; where each one that waits had arrived, so has every
-- waiting entry.
use Prim.Native.Nat.{ℕ, ◌+◌, ◌-◌, ◌*◌, ◌≤◌, ◌<◌}
use mathlib.Core.Path.{◌≡◌, refl, sym, ◌∙◌, ap}
use mathlib.Core.Logic.{◌≢◌, ◌⊎◌, inl, inr, ⊎_elim}
use mathlib.Core.Bool.{true}
use mathlib.Core.List.{List, [], ◌∷◌, ◌++◌}
use mathlib.Core.Option.{Option, none, some}
use native.Mathlib.Omega.{arith}
use lib.Dec.{eqb}
use lib.ListN.{length, get_or, length-append, get_or-append}
use lib.Seq.{get_or-append-add}
use borrow.Author.Tests.{eqb-true, eqb-false}
use Rattle.laws.specs.Bytes.{be2, be4}
use Rattle.laws.specs.Lists.{part}
use Rattle.laws.proofs.Refusal.{by_test}
use Rattle.laws.proofs.Splice.{part_first, part_second, either, below?}
use Rattle.laws.proofs.Tests.{and_left}
use Rattle.rules.specs.Calls.{Start}
use Rattle.rules.specs.Candidates.{SetPair, Agreement, agreed, pair_at, sets_with, arrivals_with}
use Rattle.rules.specs.Claim.{FourThings, Counted, Agreed, tag_name, NoneOf, contents_by, chain_by}
use Rattle.rules.specs.Log.{Entry, Log, Once, chain_in, chain_turns}
use Rattle.rules.specs.Navdata.{set_issue}
use Rattle.rules.specs.State.{State, Auth, prn_valid, sets_length, arrivals_length, copy_length, entry_length}
use Rattle.rules.specs.Tags.{Work, names_satellite, told_plain, agreed_in, told_agreed, told, kept, tag_record, record_issue, entry_tag}
use Rattle.rules.specs.Times.{stamp_of, time_valid}
use Rattle.rules.specs.Verdict.{Verdict}
use Rattle.rules.specs.declared.Tag.{Tag}
use Rattle.rules.proofs.Agreements.{Forty, PairIs, AgreedIs, forty_map, pair_map, pair_used, agreed_is, agreed_outcome, Whole, agreed_whole}
use Rattle.rules.proofs.Entries.{Entries, no_entries, one_more}
use Rattle.rules.proofs.Invariant.{WaitIs, NamesAre, SetsAre, AgreedIn}
use Rattle.rules.proofs.Names.{no_names, names_less, names_judged, names-kept}
use Rattle.rules.proofs.PairPlaces.{pair_whole, sets_with_size, arrivals_with_size, pair_same, pair_other}
use Rattle.rules.proofs.Parts.{part_whole}

-- ---- what is so of the work so far

-- as Agreed, of a tag that was judged here: record `place` of these is its own
pub record NewAgreed (o : Start) (b : State) (records : List ℕ) (prn : ℕ) (navdata : List ℕ) (turn : ℕ) (c : Counted) (x : Entry) (l : Log) : Type 0 where
  pub prn_is : c.tag.prn ≡ prn
  pub outcome : ℕ
  pub place : ℕ
  pub outcome_is : (outcome ≡ 1) ⊎ (outcome ≡ 9)
  pub inside : 12 * place + 12 ≤ length records
  pub record_is : part records (12 * place) 12 ≡ tag_record outcome c.tag (set_issue navdata)
  pub four : FourThings o b c.tag navdata x l
  pub size_is : c.size ≡ (chain_by o four.force).ms
  pub turn_is : turn ≡ chain_turns l

-- a tag agreed before, or here
abbrev pub AgreedNow : Start → State → List ℕ → Entry → Log → ℕ → List ℕ → ℕ → Counted → Type 0
AgreedNow o b records x l prn navdata turn c = Once (Agreed o b prn navdata turn c) l ⊎ NewAgreed o b records prn navdata turn c x l

-- a tag agreed before, or here by one of the first n records
abbrev pub AgreedBy : Start → State → List ℕ → Entry → Log → ℕ → List ℕ → ℕ → ℕ → Counted → Type 0
AgreedBy o b records x l prn navdata n turn c = Once (Agreed o b prn navdata turn c) l ⊎ ((a : NewAgreed o b records prn navdata turn c x l) × (a.place < n))

-- record `place` of these is that of a tag that was judged here, has the four things, and whose set has its forty bits, of tags up to this record
pub record PlaceMarked (o : Start) (b : State) (records : List ℕ) (place : ℕ) (x : Entry) (l : Log) : Type 0 where
  pub tag : Tag
  pub navdata : List ℕ
  pub inside : 12 * place + 12 ≤ length records
  pub record_is : part records (12 * place) 12 ≡ tag_record 1 tag (set_issue navdata)
  pub four : FourThings o b tag navdata x l
  pub time : ℕ
  pub forty : Forty (AgreedBy o b records x l tag.prn navdata (place + 1)) time

-- `U` has the names of tags that were not seen so far
pub record WorkIs (o : Start) (b : State) (said : Verdict) (x : Entry) (l : Log) (U : List ℕ → Type 0) (w : Work) : Type 0 where
  -- the number of records
  pub n : ℕ
  pub size : length w.records ≡ n * 12
  pub waiting : Entries (λ (e : List ℕ). WaitIs o (contents_by said) e (x ∷ l)) w.kept w.count
  pub sets_size : length w.sets ≡ sets_length
  pub arrivals_size : length w.arrivals ≡ arrivals_length
  pub used : List (List ℕ)
  pub names : NamesAre U w.kept w.count used
  pub pairs : (prn : ℕ) → prn_valid prn ≡ true → PairIs (AgreedNow o b w.records x l prn) used (chain_turns l) (pair_at w.sets w.arrivals prn)
  pub marks : (k : ℕ) → k < n → get_or w.records (12 * k) 0 ≡ 1 → PlaceMarked o b w.records k x l

-- ---- what was so is so with a record more

new_later : (o : Start) (b : State) (x : Entry) (l : Log) (records r : List ℕ) (prn : ℕ) (navdata : List ℕ) (turn : ℕ) (c : Counted)
    → NewAgreed o b records prn navdata turn c x l → NewAgreed o b (records ++ r) prn navdata turn c x l
new_later o b x l records r prn navdata turn c a =
    let i = a.inside in
    let s = length-append records r in
    record {
      prn_is = a.prn_is;
      outcome = a.outcome;
      place = a.place;
      outcome_is = a.outcome_is;
      inside = omega arith;
      record_is = part_first records r (12 * a.place) 12 (omega arith) ∙ a.record_is;
      four = a.four;
      size_is = a.size_is;
      turn_is = a.turn_is;
    }

now_later : (o : Start) (b : State) (x : Entry) (l : Log) (records r : List ℕ) (prn : ℕ) (navdata : List ℕ) (turn : ℕ) (c : Counted)
    → AgreedNow o b records x l prn navdata turn c → AgreedNow o b (records ++ r) x l prn navdata turn c
now_later o b x l records r prn navdata turn c (inl a) = inl a
now_later o b x l records r prn navdata turn c (inr a) = inr (new_later o b x l records r prn navdata turn c a)

by_later : (o : Start) (b : State) (x : Entry) (l : Log) (records r : List ℕ) (prn : ℕ) (navdata : List ℕ) (n turn : ℕ) (c : Counted)
    → AgreedBy o b records x l prn navdata n turn c → AgreedBy o b (records ++ r) x l prn navdata n turn c
unfolding new_later
by_later o b x l records r prn navdata n turn c (inl a) = inl a
by_later o b x l records r prn navdata n turn c (inr a) = inr (new_later o b x l records r prn navdata turn c a.0, a.1)

-- of n records each is one of the first n
now_by : (o : Start) (b : State) (x : Entry) (l : Log) (records : List ℕ) (prn : ℕ) (navdata : List ℕ) (n : ℕ) → length records ≡ n * 12 → (turn : ℕ) (c : Counted)
    → AgreedNow o b records x l prn navdata turn c → AgreedBy o b records x l prn navdata n turn c
now_by o b x l records prn navdata n size turn c (inl a) = inl a
now_by o b x l records prn navdata n size turn c (inr a) = let i = a.inside in inr (a, omega arith)

place_later : (o : Start) (b : State) (x : Entry) (l : Log) (records r : List ℕ) (place : ℕ) → PlaceMarked o b records place x l → PlaceMarked o b (records ++ r) place x l
place_later o b x l records r place p =
    let i = p.inside in
    let s = length-append records r in
    record {
      tag = p.tag;
      navdata = p.navdata;
      inside = omega arith;
      record_is = part_first records r (12 * place) 12 (omega arith) ∙ p.record_is;
      four = p.four;
      time = p.time;
      forty =
          forty_map (AgreedBy o b records x l p.tag.prn p.navdata (place + 1)) (AgreedBy o b (records ++ r) x l p.tag.prn p.navdata (place + 1)) p.time
          (by_later o b x l records r p.tag.prn p.navdata (place + 1)) p.forty;
    }

pair_later : (o : Start) (b : State) (x : Entry) (l : Log) (records r : List ℕ) (prn : ℕ) (used : List (List ℕ)) (turn : ℕ) (p : SetPair)
    → PairIs (AgreedNow o b records x l prn) used turn p → PairIs (AgreedNow o b (records ++ r) x l prn) used turn p
pair_later o b x l records r prn used turn p v =
    pair_map (AgreedNow o b records x l prn) (AgreedNow o b (records ++ r) x l prn) used turn p (now_later o b x l records r prn) v

-- ---- a record

pub length_record : (outcome : ℕ) (t : Tag) (issue : ℕ) → length (tag_record outcome t issue) ≡ 12
unfolding tag_record be2 be4
length_record outcome t issue = refl

-- a tag that is told has one record more
pub told_long : (ms : ℕ) (t : Tag) (navdata : List ℕ) (found : ℕ) (w : Work) → length (told ms found t navdata w).records ≡ length w.records + 12
unfolding told told_plain told_agreed agreed_in
told_long ms t navdata found w =
    let P : Work → Type 0 = λ v. length v.records ≡ length w.records + 12 in
    by_test P (eqb found 1)
    (λ _. by_test P (names_satellite t) (λ _. simp (length-append, length_record)) (λ _. simp (length-append, length_record)))
    (λ _. simp (length-append, length_record))

record_outcome : (outcome : ℕ) (t : Tag) (issue : ℕ) → get_or (tag_record outcome t issue) 0 0 ≡ outcome
unfolding tag_record
record_outcome outcome t issue = refl

-- outcomes 1 and 9 carry the IODnav of the set
one_issue : (outcome : ℕ) (navdata : List ℕ) → (outcome ≡ 1) ⊎ (outcome ≡ 9) → record_issue outcome navdata ≡ set_issue navdata
unfolding record_issue
one_issue outcome navdata (inl e) = rw e refl
one_issue outcome navdata (inr e) = rw e refl

-- one more record behind n of them
module _ (records : List ℕ) (n : ℕ) (size : length records ≡ n * 12) (outcome : ℕ) (t : Tag) (issue : ℕ) where
  abbrev newest : List ℕ
  newest = tag_record outcome t issue

  newest_inside : 12 * n + 12 ≤ length (records ++ newest)
  newest_inside =
      let k = length_record outcome t issue in
      let s = length-append records newest in
      omega arith

  newest_is : part (records ++ newest) (12 * n) 12 ≡ newest
  newest_is =
      let z : 12 * n - length records ≡ 0 = omega arith in
      part_second records newest (12 * n) 12 (omega arith) ∙ ap (λ (p : ℕ). part newest p 12) z ∙ part_whole newest 12 (length_record outcome t issue)

  told_size : length (records ++ newest) ≡ (n + 1) * 12
  told_size =
      let k = length_record outcome t issue in
      let a = length-append records newest in
      omega arith

  old_outcome : (k : ℕ) → k < n → get_or (records ++ newest) (12 * k) 0 ≡ get_or records (12 * k) 0
  old_outcome k h = get_or-append records newest 0 (12 * k) (omega arith)

  newest_outcome : get_or (records ++ newest) (12 * n) 0 ≡ outcome
  newest_outcome =
      let e : 12 * n ≡ length records + 0 = omega arith in
      ap (λ (p : ℕ). get_or (records ++ newest) p 0) e ∙ get_or-append-add records newest 0 0 ∙ record_outcome outcome t issue

-- ---- the chain in force is one

abbrev or_else : Verdict → Option Verdict → Verdict
or_else d none = d
or_else d (some v) = v

same_force : (l : Log) (u v : Verdict) → chain_in l ≡ some u → chain_in l ≡ some v → u ≡ v
same_force l u v e f = ap (or_else u) (sym e ∙ f)

module _ (o : Start) (b : State) (said : Verdict) (x : Entry) (l : Log) (in_force_law : chain_in l ≡ some said) where
  abbrev Is : (List ℕ → Type 0) → Work → Type 0
  Is U w = WorkIs o b said x l U w

  abbrev ms : ℕ
  ms = (chain_by o said).ms

  pub work_less : (U U2 : List ℕ → Type 0) (w : Work) → ((n : List ℕ) → U2 n → U n) → Is U w → Is U2 w
  work_less U U2 w f v =
      record {
        n = v.n;
        size = v.size;
        waiting = v.waiting;
        sets_size = v.sets_size;
        arrivals_size = v.arrivals_size;
        used = v.used;
        names = names_less U U2 w.kept w.count v.used f v.names;
        pairs = v.pairs;
        marks = v.marks;
      }

  -- ---- a tag that gets an outcome other than 1 and does nothing else

  module _ (U : List ℕ → Type 0) (outcome : ℕ) (t : Tag) (navdata : List ℕ) (w : Work) (v : WorkIs o b said x l U w) (other : outcome ≢ 1) where
    abbrev plainRecord : List ℕ
    plainRecord = tag_record outcome t (record_issue outcome navdata)

    plain_marks : (k : ℕ) → k < v.n + 1 → get_or (w.records ++ plainRecord) (12 * k) 0 ≡ 1 → PlaceMarked o b (w.records ++ plainRecord) k x l
    plain_marks k h m =
        ⊎_elim
        (λ (i : k < v.n). place_later o b x l w.records plainRecord k (v.marks k i (sym (old_outcome w.records v.n v.size outcome t (record_issue outcome navdata) k i) ∙ m)))
        (λ (i : v.n ≤ k). (
        let y : v.n ≡ k = omega arith in
        absurd (other (sym (newest_outcome w.records v.n v.size outcome t (record_issue outcome navdata)) ∙ ap (λ (p : ℕ). get_or (w.records ++ plainRecord) (12 * p) 0) y ∙ m))
        ))
        (below? k v.n)

    pub plain_is : Is U (told_plain outcome t navdata w)
    unfolding told_plain
    plain_is =
        record {
          n = v.n + 1;
          size = told_size w.records v.n v.size outcome t (record_issue outcome navdata);
          waiting = v.waiting;
          sets_size = v.sets_size;
          arrivals_size = v.arrivals_size;
          used = v.used;
          names = v.names;
          pairs = λ prn p. pair_later o b x l w.records plainRecord prn v.used (chain_turns l) (pair_at w.sets w.arrivals prn) (v.pairs prn p);
          marks = plain_marks;
        }

    pub told_plain_lem : Is U (told ms outcome t navdata w)
    unfolding told
    told_plain_lem =
        by_test (Is U) (eqb outcome 1) (λ e. absurd (other (eqb-true outcome 1 e))) (λ _. plain_is)

  -- ---- a tag that agrees

  module _ (U U2 : List ℕ → Type 0) (t : Tag) (navdata : List ℕ) (w : Work) (v : WorkIs o b said x l U w) (set-size : length navdata ≡ copy_length) (four : FourThings o b t navdata x l)
      (new : U (tag_name t)) (less : (n : List ℕ) → U2 n → U n × (n ≢ tag_name t)) where
    names_now : NamesAre U2 w.kept w.count (tag_name t ∷ v.used)
    names_now = names_judged U U2 w.kept w.count v.used (tag_name t) new less v.names

    module _ (valid : prn_valid t.prn ≡ true) where
      abbrev before : SetPair
      before = pair_at w.sets w.arrivals t.prn

      abbrev result : Agreement
      result = agreed ms (stamp_of t.time) navdata before

      abbrev issue : ℕ
      issue = record_issue result.outcome navdata

      abbrev newRecord : List ℕ
      newRecord = tag_record result.outcome t issue

      abbrev counted : Counted
      counted = record { tag = t; size = ms }

      abbrev Now : List ℕ → ℕ → Counted → Type 0
      Now = AgreedNow o b (w.records ++ newRecord) x l t.prn

      outcomes : (result.outcome ≡ 1) ⊎ (result.outcome ≡ 9)
      outcomes = agreed_outcome ms (stamp_of t.time) navdata before

      record_now : part (w.records ++ newRecord) (12 * v.n) 12 ≡ tag_record result.outcome t (set_issue navdata)
      record_now = newest_is w.records v.n v.size result.outcome t issue ∙ ap (tag_record result.outcome t) (one_issue result.outcome navdata outcomes)

      agreed_here : Now navdata (chain_turns l) counted
      agreed_here =
          inr (record {
            prn_is = refl;
            outcome = result.outcome;
            place = v.n;
            outcome_is = outcomes;
            inside = newest_inside w.records v.n v.size result.outcome t issue;
            record_is = record_now;
            four = four;
            size_is = ap (λ (u : Verdict). (chain_by o u).ms) (same_force l said four.force in_force_law four.in_force_law);
            turn_is = refl;
          })

      result_is : AgreedIs Now (tag_name t ∷ v.used) (chain_turns l) navdata result
      result_is =
          agreed_is Now v.used (chain_turns l) navdata counted agreed_here (v.names.unseen (tag_name t) new).0 before
          (pair_later o b x l w.records newRecord t.prn v.used (chain_turns l) before (v.pairs t.prn valid))

      whole_before : Whole before
      whole_before = pair_whole w.sets w.arrivals t.prn v.sets_size valid

      whole_after : Whole result.pair
      whole_after = agreed_whole ms (stamp_of t.time) navdata before set-size whole_before

      pairs_now : (prn : ℕ) → prn_valid prn ≡ true
          → PairIs (AgreedNow o b (w.records ++ newRecord) x l prn) (tag_name t ∷ v.used) (chain_turns l) (pair_at (sets_with w.sets t.prn result.pair) (arrivals_with w.arrivals t.prn result.pair) prn)
      pairs_now prn p =
          ⊎_elim
          (λ e. (
          let q = eqb-true prn t.prn e in
          rw (q, pair_same w.sets w.arrivals t.prn result.pair v.sets_size v.arrivals_size valid whole_after) result_is.pair
          ))
          (λ e. (
          let q = eqb-false prn t.prn e in
          rw (pair_other w.sets w.arrivals t.prn result.pair v.sets_size v.arrivals_size valid whole_after prn p q)
          (pair_used (AgreedNow o b (w.records ++ newRecord) x l prn) (tag_name t) v.used (chain_turns l) (pair_at w.sets w.arrivals prn)
          (pair_later o b x l w.records newRecord prn v.used (chain_turns l) (pair_at w.sets w.arrivals prn) (v.pairs prn p)))
          ))
          (either (eqb prn t.prn))

      marks_now : (k : ℕ) → k < v.n + 1 → get_or (w.records ++ newRecord) (12 * k) 0 ≡ 1 → PlaceMarked o b (w.records ++ newRecord) k x l
      marks_now k h m =
          ⊎_elim
          (λ (i : k < v.n). place_later o b x l w.records newRecord k (v.marks k i (sym (old_outcome w.records v.n v.size result.outcome t issue k i) ∙ m)))
          (λ (i : v.n ≤ k). (
          let y : v.n ≡ k = omega arith in
          let one : result.outcome ≡ 1 =
          sym (newest_outcome w.records v.n v.size result.outcome t issue)
          ∙ ap (λ (p : ℕ). get_or (w.records ++ newRecord) (12 * p) 0) y
          ∙ m in
          let f = result_is.forty one in
          rw (← y)
          (record {
            tag = t;
            navdata = navdata;
            inside = newest_inside w.records v.n v.size result.outcome t issue;
            record_is = record_now ∙ ap (λ (p : ℕ). tag_record p t (set_issue navdata)) one;
            four = four;
            time = f.0;
            forty =
                forty_map (Now navdata) (AgreedBy o b (w.records ++ newRecord) x l t.prn navdata (v.n + 1)) f.0
                (now_by o b x l (w.records ++ newRecord) t.prn navdata (v.n + 1) (told_size w.records v.n v.size result.outcome t issue)) f.1;
          })
          ))
          (below? k v.n)

      agreed_told : Is U2 (told_agreed ms t navdata w)
      unfolding told_agreed agreed_in
      agreed_told =
          record {
            n = v.n + 1;
            size = told_size w.records v.n v.size result.outcome t issue;
            waiting = v.waiting;
            sets_size = sets_with_size w.sets w.arrivals t.prn result.pair v.sets_size v.arrivals_size valid whole_after;
            arrivals_size = arrivals_with_size w.sets w.arrivals t.prn result.pair v.sets_size v.arrivals_size valid whole_after;
            used = tag_name t ∷ v.used;
            names = names_now;
            pairs = pairs_now;
            marks = marks_now;
          }

    pub told_agreed_lem : Is U2 (told ms 1 t navdata w)
    unfolding told names_satellite
    told_agreed_lem =
        by_test (Is U2) (names_satellite t)
        (λ e. agreed_told (and_left (prn_valid t.prn) (time_valid t.time) e))
        (λ _. work_less U U2 _ (λ n u. (less n u).0) (plain_is U 9 t navdata w v (λ e. absurd (omega (arith, e)))))

  -- a tag that is found to be something
  pub told_is : (U U2 : List ℕ → Type 0) (found : ℕ) (t : Tag) (navdata : List ℕ) (w : Work) → Is U w → length navdata ≡ copy_length → (found ≡ 1 → FourThings o b t navdata x l)
      → U (tag_name t) → ((n : List ℕ) → U2 n → U n × (n ≢ tag_name t)) → Is U2 (told ms found t navdata w)
  told_is U U2 found t navdata w v set-size four new less =
      ⊎_elim
      (λ e. (
      let one = eqb-true found 1 e in
      rw one (told_agreed_lem U U2 t navdata w v set-size (four one) new less)
      ))
      (λ e. work_less U U2 _ (λ n u. (less n u).0) (told_plain_lem U found t navdata w v (eqb-false found 1 e)))
      (either (eqb found 1))

  -- ---- a tag that waits

  pub kept_is : (U U2 : List ℕ → Type 0) (e : List ℕ) (w : Work) → Is U w → length e ≡ entry_length → WaitIs o (contents_by said) e (x ∷ l)
      → U (tag_name (entry_tag e)) → ((n : List ℕ) → U2 n → U n × (n ≢ tag_name (entry_tag e))) → Is U2 (kept e w)
  unfolding kept
  kept_is U U2 e w v h i new less =
      record {
        n = v.n;
        size = v.size;
        waiting = one_more (λ (e : List ℕ). WaitIs o (contents_by said) e (x ∷ l)) w.kept e w.count v.waiting h i;
        sets_size = v.sets_size;
        arrivals_size = v.arrivals_size;
        used = v.used;
        names = names-kept U U2 w.kept w.count v.used e v.waiting.size h new less v.names;
        pairs = v.pairs;
        marks = v.marks;
      }

  -- ---- nothing done yet

  pub start_is : (a : Auth) (used : List (List ℕ)) → SetsAre o b a used l → length a.sets ≡ sets_length → length a.arrivals ≡ arrivals_length
      → Is (λ (n : List ℕ). NoneOf n used) (record { kept = []; count = 0; sets = a.sets; arrivals = a.arrivals; records = [] })
  start_is a used v s t =
      record {
        n = 0;
        size = refl;
        waiting = no_entries (λ (e : List ℕ). WaitIs o (contents_by said) e (x ∷ l));
        sets_size = s;
        arrivals_size = t;
        used = used;
        names = no_names (λ (n : List ℕ). NoneOf n used) [] 0 used refl (λ n u. u);
        pairs = λ prn p. pair_map (AgreedIn o b l prn) (AgreedNow o b [] x l prn) used (chain_turns l) (pair_at a.sets a.arrivals prn) (λ d turn c a. inl a) (v.backed prn p);
        marks = λ k h. absurd (omega arith);
      }
