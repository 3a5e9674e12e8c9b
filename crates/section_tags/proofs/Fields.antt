-- One field more of a section: its outcome by the tests is the rule's, and its work adds to that of the fields before it.
-- Assumes nothing.
use mathlib.Core.Path.{◌≡◌, refl, sym, ap, ◌∙◌}
use mathlib.Core.Bool.{Bool, true, false, cond, not, ◌&&◌, ◌||◌}
use mathlib.Core.Logic.{⊎_elim}
use mathlib.Core.List.{List, [], ◌∷◌, ◌++◌, append-nil}
use Prim.Native.Nat.{ℕ, ◌+◌, ◌*◌, ◌≤◌, ◌<◌}
use native.Mathlib.Omega.{arith}
use native.Mathlib.Nat.{sub_self}
use native.Mathlib.Numerals.{add-one}
use lib.Dec.{eqb, ltb}
use lib.ListN.{length, length-append}
use borrow.Author.Tests.{eq-eqb, ne_eqb, eqb-true, ltb-true}
use Rattle.laws.specs.Lists.{splice}
use Rattle.laws.proofs.Splice.{either, splice_nil, splice-after}
use Rattle.laws.proofs.Tests.{true_false, neither}
use Rattle.laws.specs.Refusal.{neb}
use Rattle.rules.specs.Bits.{any_of}
use Rattle.rules.specs.Chain.{Held}
use Rattle.rules.specs.Received.{field_lost, lost_tag, field_judged, fields_judged}
use Rattle.rules.specs.State.{Nav, mark_of, prn_valid, entry_length, waiting_length, area_length}
use Rattle.rules.specs.Tags.{Work, Section, told_plain, told, kept, record_issue, tag_entry, tag_matches, own_tag, not_allowed, second_half, flexible, macseq_fits, own_outcome, own_judged}
use Rattle.rules.specs.Times.{delay_of}
use Rattle.rules.specs.Navdata.{usable, set_of}
use Rattle.rules.specs.declared.Chain.{Chain}
use Rattle.rules.specs.Outcomes.{outcome_number}
use Rattle.rules.specs.declared.Outcome.{Outcome}
use Rattle.rules.specs.declared.Outcome.TheVariants.{Agrees, Wrong, NoUsableSet, NotAllowed, Waits, SequenceUnfit, NoPlace, Lost}
use Rattle.rules.specs.declared.Tag.{Tag}
use Rattle.rules.proofs.Parts.{length-set_of}
use Rattle.rules.proofs.Entries.{length_tag_entry}
use Rattle.rules.proofs.TagRecords.{told_long}
use Rattle.tag_records.proofs.Told.{told_after}
use Rattle.tag_records.specs.Told.{start, after, Tells, Leaves}
use Rattle.section_outcomes.specs.Outcomes.{outcome_by}
use Rattle.section_outcomes.proofs.Tests.{waits_free}
use Rattle.section_tags.specs.Own.{settled, Grows}

-- ---- outcomes

-- a tag that is not refused names a satellite
prn_known : (a b v : Bool) → (a || (b || (not v || false))) ≡ false → v ≡ true
prn_known a b true p = refl
prn_known a b false p = true_false (sym (ap not (neither b true (neither a (b || true) p).1).1))

allowed_prn : (config : List ℕ) (j : ℕ) (t : Tag) → not_allowed config j t ≡ false → prn_valid t.prn ≡ true
unfolding not_allowed
allowed_prn config j t p =
    prn_known (not (any_of (eqb t.adkd 0 ∷ eqb t.adkd 11 ∷ eqb t.adkd 12 ∷ [])))
    (not (flexible config t.time j) && neb t.adkd (mark_of config (second_half t.time) j)) (prn_valid t.prn) p

-- the record of a lost field, or of a refused tag, does not read the set
pub lost_any : (ms : ℕ) (t : Tag) (s : List ℕ) (w : Work) → settled ms 8 t s w ≡ told ms 8 t [] w
unfolding settled told told_plain record_issue
lost_any ms t s w = refl

refused_any : (ms : ℕ) (t : Tag) (s u : List ℕ) (w : Work) → settled ms 4 t s w ≡ settled ms 4 t u w
unfolding settled told told_plain record_issue
refused_any ms t s u w = refl

module _ (config : List ℕ) (n : Nav) (c : Chain) (h : Held) (x : Section) (j : ℕ) (fits : Bool) (w : Work) (p : ℕ) (set : List ℕ)
    (f : fits ≡ macseq_fits config c h x) (s : set ≡ set_of n.words p) where
  abbrev outcome : ℕ
  outcome =
      let t = own_tag c x j in
      outcome_by (not_allowed config j t) (flexible config t.time j && not fits) (not (usable n p t.time))
      (eqb (delay_of t.adkd) 0 && tag_matches c h (eqb j 0) t set) (eqb (delay_of t.adkd) 0) (ltb w.count 256)

  judged_refused : not_allowed config j (own_tag c x j) ≡ true → settled c.ms outcome (own_tag c x j) set w ≡ own_judged config n c h x j w
  unfolding settled own_judged own_outcome
  judged_refused e = rw e (refused_any c.ms (own_tag c x j) set (set_of n.words (own_tag c x j).prn) w)

  judged_known : p ≡ (own_tag c x j).prn → settled c.ms outcome (own_tag c x j) set w ≡ own_judged config n c h x j w
  unfolding settled own_judged own_outcome
  judged_known e = rw (s, e, f)

  pub field_judged_lem : (prn_valid (own_tag c x j).prn ≡ true → p ≡ (own_tag c x j).prn) → settled c.ms outcome (own_tag c x j) set w ≡ own_judged config n c h x j w
  field_judged_lem e =
      ⊎_elim (λ r. judged_refused r) (λ r. judged_known (e (allowed_prn config j (own_tag c x j) r))) (either (not_allowed config j (own_tag c x j)))

-- the same for a tag that is known to be the field's
pub one_judged : (config : List ℕ) (n : Nav) (c : Chain) (h : Held) (x : Section) (j : ℕ) (fits : Bool) (w : Work) (p o : ℕ) (set : List ℕ) (t : Tag)
    → t ≡ own_tag c x j → fits ≡ macseq_fits config c h x → set ≡ set_of n.words p → (prn_valid t.prn ≡ true → p ≡ t.prn)
    → o ≡ outcome_by (not_allowed config j t) (flexible config t.time j && not fits) (not (usable n p t.time))
    (eqb (delay_of t.adkd) 0 && tag_matches c h (eqb j 0) t set) (eqb (delay_of t.adkd) 0) (ltb w.count 256)
    → settled c.ms o t set w ≡ own_judged config n c h x j w
one_judged config n c h x j fits w p o set t e f s v q =
    rw (q, e) (field_judged_lem config n c h x j fits w p set f s (λ u. v (rw e u) ∙ ap (λ (i : Tag). i.prn) e))

-- a field that is lost, by its tag's record, and one that is not
module _ (config : List ℕ) (n : Nav) (c : Chain) (h : Held) (x : Section) (marks j : ℕ) (w : Work) where
  pub lost_judged : (o : ℕ) (t : Tag) (s : List ℕ) → o ≡ 8 → t ≡ lost_tag c x marks j → field_lost config c x.time marks j ≡ true
      → settled c.ms o t s w ≡ field_judged config n c h x marks j w
  unfolding field_judged
  lost_judged o t s e q l = rw (e, q, l) (lost_any c.ms (lost_tag c x marks j) s w)

  pub own_judged_lem : field_lost config c x.time marks j ≡ false → field_judged config n c h x marks j w ≡ own_judged config n c h x j w
  unfolding field_judged
  own_judged_lem l = rw l

-- ---- a tag's work adds to what was there

-- `settled` by whether the tag waits
abbrev by_wait : Bool → ℕ → ℕ → Tag → List ℕ → Work → Work
by_wait b ms o t s w = cond b (kept (tag_entry t s) (told ms o t s w)) (told ms o t s w)

module _ (ms o : ℕ) (t : Tag) (s : List ℕ) (w : Work) where
  abbrev before : Work
  before = start w.count w.sets w.arrivals

  -- the tag's work after what was there, and alone
  there : told ms o t s w ≡ after w (told ms o t s (start 0 w.sets w.arrivals))
  there = told_after ms t s o w

  alone_too : told ms o t s before ≡ after before (told ms o t s (start 0 w.sets w.arrivals))
  alone_too = told_after ms t s o before

  kept_by : (b : Bool) → (by_wait b ms o t s w).kept ≡ w.kept ++ (by_wait b ms o t s before).kept
  unfolding kept
  kept_by true = rw (there, alone_too) refl
  kept_by false = rw (there, alone_too) (sym (append-nil w.kept))

  records_by : (b : Bool) → (by_wait b ms o t s w).records ≡ w.records ++ (by_wait b ms o t s before).records
  unfolding kept
  records_by true = rw (there, alone_too) refl
  records_by false = rw (there, alone_too) refl

  sets_by : (b : Bool) → (by_wait b ms o t s w).sets ≡ (by_wait b ms o t s before).sets
  unfolding kept
  sets_by true = rw (there, alone_too) refl
  sets_by false = rw (there, alone_too) refl

  arrivals_by : (b : Bool) → (by_wait b ms o t s w).arrivals ≡ (by_wait b ms o t s before).arrivals
  unfolding kept
  arrivals_by true = rw (there, alone_too) refl
  arrivals_by false = rw (there, alone_too) refl

  count_by : (b : Bool) → (by_wait b ms o t s w).count ≡ (by_wait b ms o t s before).count
  unfolding kept
  count_by true = rw (there, alone_too) refl
  count_by false = rw (there, alone_too) refl

  -- how much it is
  kept_long_by : (b : Bool) → (b ≡ true → length s ≡ 69) → length (by_wait b ms o t s before).kept + w.count * entry_length ≡ (by_wait b ms o t s before).count * entry_length
  unfolding kept
  kept_long_by true q = rw (alone_too) (omega (arith, length_tag_entry t s (q refl)))
  kept_long_by false q = rw (alone_too) (omega arith)

  records_long_by : (b : Bool) → length (by_wait b ms o t s before).records ≡ 12
  unfolding kept
  records_long_by true = told_long ms t s o before
  records_long_by false = told_long ms t s o before

  count_low_by : (b : Bool) → w.count ≤ (by_wait b ms o t s before).count
  unfolding kept
  count_low_by true = rw (alone_too) (omega arith)
  count_low_by false = rw (alone_too) (omega arith)

  count_high_by : (b : Bool) → w.count ≤ 256 → (b ≡ true → w.count < 256) → (by_wait b ms o t s before).count ≤ 256
  unfolding kept
  count_high_by true q r = rw (alone_too) (omega (arith, r refl))
  count_high_by false q r = rw (alone_too) (omega arith)

-- the same of a field that is not lost
module _ (config : List ℕ) (n : Nav) (c : Chain) (h : Held) (x : Section) (j : ℕ) (w : Work) where
  abbrev own_one : Work
  own_one = own_judged config n c h x j (start w.count w.sets w.arrivals)

  abbrev own-all : Work
  own-all = own_judged config n c h x j w

  abbrev o : ℕ
  o = own_outcome config n c h x j w.count

  abbrev t : Tag
  t = own_tag c x j

  abbrev s : List ℕ
  s = set_of n.words (own_tag c x j).prn

  own_kept : own-all.kept ≡ w.kept ++ own_one.kept
  unfolding own_judged
  own_kept = kept_by c.ms o t s w (eqb o 5)

  own_records : own-all.records ≡ w.records ++ own_one.records
  unfolding own_judged
  own_records = records_by c.ms o t s w (eqb o 5)

  own_sets : own-all.sets ≡ own_one.sets
  unfolding own_judged
  own_sets = sets_by c.ms o t s w (eqb o 5)

  own_arrivals : own-all.arrivals ≡ own_one.arrivals
  unfolding own_judged
  own_arrivals = arrivals_by c.ms o t s w (eqb o 5)

  own_count : own-all.count ≡ own_one.count
  unfolding own_judged
  own_count = count_by c.ms o t s w (eqb o 5)

  own_kept_long : length own_one.kept + w.count * entry_length ≡ own_one.count * entry_length
  unfolding own_judged
  own_kept_long = kept_long_by c.ms o t s w (eqb o 5) (λ _. length-set_of n.words (own_tag c x j).prn)

  own_records_long : length own_one.records ≡ 12
  unfolding own_judged
  own_records_long = records_long_by c.ms o t s w (eqb o 5)

  own_count_low : w.count ≤ own_one.count
  unfolding own_judged
  own_count_low = count_low_by c.ms o t s w (eqb o 5)

  own_free : o ≡ 5 → w.count < 256
  unfolding own_outcome
  own_free e =
      ltb-true w.count 256
      (waits_free (not_allowed config j t) (flexible config t.time j && not (macseq_fits config c h x)) (not (usable n t.prn t.time))
      (eqb (delay_of t.adkd) 0 && tag_matches c h (eqb j 0) t s) (eqb (delay_of t.adkd) 0) (ltb w.count 256) e)

  own_count_high : w.count ≤ 256 → own_one.count ≤ 256
  unfolding own_judged
  own_count_high q = count_high_by c.ms o t s w (eqb o 5) q (λ e. own_free (eqb-true o 5 e))

-- the same of any field: a lost one adds its record alone
module _ (config : List ℕ) (n : Nav) (c : Chain) (h : Held) (x : Section) (marks j : ℕ) (w : Work) where
  abbrev pub one : Work
  one = field_judged config n c h x marks j (start w.count w.sets w.arrivals)

  abbrev all : Work
  all = field_judged config n c h x marks j w

  -- field j by whether it is lost
  abbrev by-loss : Bool → Work → Work
  by-loss b v = cond b (told c.ms 8 (lost_tag c x marks j) [] v) (own_judged config n c h x j v)

  abbrev alone : Work
  alone = start w.count w.sets w.arrivals

  abbrev lost : Bool
  lost = field_lost config c x.time marks j

  loss_kept : (b : Bool) → (by-loss b w).kept ≡ w.kept ++ (by-loss b alone).kept
  loss_kept true = kept_by c.ms 8 (lost_tag c x marks j) [] w false
  loss_kept false = own_kept config n c h x j w

  loss_records : (b : Bool) → (by-loss b w).records ≡ w.records ++ (by-loss b alone).records
  loss_records true = records_by c.ms 8 (lost_tag c x marks j) [] w false
  loss_records false = own_records config n c h x j w

  loss_sets : (b : Bool) → (by-loss b w).sets ≡ (by-loss b alone).sets
  loss_sets true = sets_by c.ms 8 (lost_tag c x marks j) [] w false
  loss_sets false = own_sets config n c h x j w

  loss_arrivals : (b : Bool) → (by-loss b w).arrivals ≡ (by-loss b alone).arrivals
  loss_arrivals true = arrivals_by c.ms 8 (lost_tag c x marks j) [] w false
  loss_arrivals false = own_arrivals config n c h x j w

  loss_count : (b : Bool) → (by-loss b w).count ≡ (by-loss b alone).count
  loss_count true = count_by c.ms 8 (lost_tag c x marks j) [] w false
  loss_count false = own_count config n c h x j w

  loss_kept_long : (b : Bool) → length (by-loss b alone).kept + w.count * entry_length ≡ (by-loss b alone).count * entry_length
  loss_kept_long true = kept_long_by c.ms 8 (lost_tag c x marks j) [] w false (λ e. true_false (sym e))
  loss_kept_long false = own_kept_long config n c h x j w

  loss_records_long : (b : Bool) → length (by-loss b alone).records ≡ 12
  loss_records_long true = records_long_by c.ms 8 (lost_tag c x marks j) [] w false
  loss_records_long false = own_records_long config n c h x j w

  loss_count_low : (b : Bool) → w.count ≤ (by-loss b alone).count
  loss_count_low true = count_low_by c.ms 8 (lost_tag c x marks j) [] w false
  loss_count_low false = own_count_low config n c h x j w

  loss_count_high : (b : Bool) → w.count ≤ 256 → (by-loss b alone).count ≤ 256
  loss_count_high true q = count_high_by c.ms 8 (lost_tag c x marks j) [] w false q (λ e. true_false (sym e))
  loss_count_high false q = own_count_high config n c h x j w q

  pub field_kept : all.kept ≡ w.kept ++ one.kept
  unfolding field_judged
  field_kept = loss_kept lost

  pub field_records : all.records ≡ w.records ++ one.records
  unfolding field_judged
  field_records = loss_records lost

  pub field_sets : all.sets ≡ one.sets
  unfolding field_judged
  field_sets = loss_sets lost

  pub field_arrivals : all.arrivals ≡ one.arrivals
  unfolding field_judged
  field_arrivals = loss_arrivals lost

  pub field_count : all.count ≡ one.count
  unfolding field_judged
  field_count = loss_count lost

  field_kept_long : length one.kept + w.count * entry_length ≡ one.count * entry_length
  unfolding field_judged
  field_kept_long = loss_kept_long lost

  field_records_long : length one.records ≡ 12
  unfolding field_judged
  field_records_long = loss_records_long lost

  field_count_low : w.count ≤ one.count
  unfolding field_judged
  field_count_low = loss_count_low lost

  field_count_high : w.count ≤ 256 → one.count ≤ 256
  unfolding field_judged
  field_count_high q = loss_count_high lost q

-- ---- and so do the regions
module _ (config : List ℕ) (n : Nav) (c : Chain) (h : Held) (x : Section) (waiting area waiting₁ sets₁ times₁ area₁ waiting₂ sets₂ times₂ area₂ : List ℕ)
    (marks count at k r r₂ : ℕ) (w : Work) (small : at + k < 270) (long-waiting : length waiting ≡ waiting_length) (long-area : length area ≡ area_length)
    (l : Leaves w count at waiting area waiting₁ sets₁ times₁ area₁ r) (g : Grows w count k r)
    (m : Leaves (field_judged config n c h x marks k (start r sets₁ times₁)) r (at + k) waiting₁ area₁ waiting₂ sets₂ times₂ area₂ r₂) where
  same_work : field_judged config n c h x marks k (start r sets₁ times₁) ≡ one config n c h x marks k w
  same_work = rw (l.sets, l.arrivals, l.count)

  grows : Grows (field_judged config n c h x marks k w) count (k + 1) r₂
  grows =
      let e = m.count ∙ ap (λ (v : Work). v.count) same_work in
      let q = l.count in
      let high = field_count_high config n c h x marks k w (omega (arith, g.places)) in
      let low = field_count_low config n c h x marks k w in
      let a = field_kept_long config n c h x marks k w in
      let b = field_records_long config n c h x marks k w in
      record {
        places = omega arith;
        more = omega (arith, g.more);
        kept_long = rw (field_kept config n c h x marks k w, length-append) (omega (arith, g.more, g.kept_long));
        records_long = rw (field_records config n c h x marks k w, length-append) (omega (arith, g.records_long));
      }

  leaves : Leaves (field_judged config n c h x marks k w) count at waiting area waiting₂ sets₂ times₂ area₂ r₂
  leaves =
      let q = l.count in
      let high = field_count_high config n c h x marks k w (omega (arith, g.places)) in
      let a = field_kept_long config n c h x marks k w in
      let b = field_records_long config n c h x marks k w in
      record {
        entries =
            m.entries
            ∙ rw (same_work, l.entries, field_kept config n c h x marks k w)
            (splice-after waiting (count * entry_length) (r * entry_length) w.kept (one config n c h x marks k w).kept (omega (arith, g.more, g.kept_long)) (omega arith));
        sets = m.sets ∙ rw (same_work) (sym (field_sets config n c h x marks k w));
        arrivals = m.arrivals ∙ rw (same_work) (sym (field_arrivals config n c h x marks k w));
        records =
            m.records
            ∙ rw (same_work, l.records, field_records config n c h x marks k w)
            (splice-after area (at * 12) ((at + k) * 12) w.records (one config n c h x marks k w).records (omega (arith, g.records_long)) (omega arith));
        count = m.count ∙ rw (same_work) (sym (field_count config n c h x marks k w));
      }

-- ---- what one tag leaves

tells_by : (b : Bool) (ms o count at : ℕ) (t : Tag) (s waiting sets arrivals area sets' arrivals' area' : List ℕ) → b ≡ false
    → Tells (told ms o t s (start 0 sets arrivals)) (at * 12) area sets' arrivals' area'
    → Leaves (by_wait b ms o t s (start count sets arrivals)) count at waiting area waiting sets' arrivals' area' count
tells_by true ms o count at t s waiting sets arrivals area sets' arrivals' area' e q = true_false e
tells_by false ms o count at t s waiting sets arrivals area sets' arrivals' area' e q =
    rw (told_after ms t s o (start count sets arrivals))
    (record { entries = sym (splice_nil waiting (count * entry_length)); sets = q.sets; arrivals = q.arrivals; records = q.records; count = refl })

waits_by : (b : Bool) (ms o count at : ℕ) (t : Tag) (s waiting sets arrivals area waiting' sets' arrivals' area' : List ℕ) → b ≡ true
    → Tells (told ms o t s (start 0 sets arrivals)) (at * 12) area sets' arrivals' area' → waiting' ≡ splice waiting (count * entry_length) (tag_entry t s)
    → Leaves (by_wait b ms o t s (start count sets arrivals)) count at waiting area waiting' sets' arrivals' area' (count + 1)
unfolding kept
waits_by true ms o count at t s waiting sets arrivals area waiting' sets' arrivals' area' e q p =
    rw (told_after ms t s o (start count sets arrivals)) (record { entries = p; sets = q.sets; arrivals = q.arrivals; records = q.records; count = refl })
waits_by false ms o count at t s waiting sets arrivals area waiting' sets' arrivals' area' e q p = true_false (sym e)

-- only a tag that waits has number 5
pub other_number : (o : Outcome) → (o ≡ Waits → ⊥) → outcome_number o ≡ 5 → ⊥
other_number Agrees h e = cc
other_number Wrong h e = cc
other_number NoUsableSet h e = cc
other_number NotAllowed h e = cc
other_number Waits h e = h refl
other_number SequenceUnfit h e = cc
other_number NoPlace h e = cc
other_number Lost h e = cc

pub told_leaves : (ms o count at : ℕ) (t : Tag) (s waiting sets arrivals area sets' arrivals' area' : List ℕ) → (o ≡ 5 → ⊥)
    → Tells (told ms o t s (start 0 sets arrivals)) (at * 12) area sets' arrivals' area'
    → Leaves (settled ms o t s (start count sets arrivals)) count at waiting area waiting sets' arrivals' area' count
unfolding settled
told_leaves ms o count at t s waiting sets arrivals area sets' arrivals' area' p q =
    tells_by (eqb o 5) ms o count at t s waiting sets arrivals area sets' arrivals' area' (ne_eqb o 5 p) q

pub waits_leaves : (ms o count at : ℕ) (t : Tag) (s waiting sets arrivals area waiting' sets' arrivals' area' : List ℕ) → o ≡ 5
    → Tells (told ms o t s (start 0 sets arrivals)) (at * 12) area sets' arrivals' area' → waiting' ≡ splice waiting (count * entry_length) (tag_entry t s)
    → Leaves (settled ms o t s (start count sets arrivals)) count at waiting area waiting' sets' arrivals' area' (count + 1)
unfolding settled
waits_leaves ms o count at t s waiting sets arrivals area waiting' sets' arrivals' area' p q e =
    waits_by (eqb o 5) ms o count at t s waiting sets arrivals area waiting' sets' arrivals' area' (eq-eqb o 5 p) q e

-- ---- no field yet, and one more of the first fields

pub none_judged : (config : List ℕ) (n : Nav) (c : Chain) (h : Held) (x : Section) (waiting sets arrivals area : List ℕ) (marks count at : ℕ) → count ≤ 256
    → Leaves (fields_judged config n c h x marks 0 (start count sets arrivals)) count at waiting area waiting sets arrivals area count
    × Grows (fields_judged config n c h x marks 0 (start count sets arrivals)) count 0 count
unfolding fields_judged
none_judged config n c h x waiting sets arrivals area marks count at p = (
  record { entries = sym (splice_nil waiting (count * entry_length)); sets = refl; arrivals = refl; records = sym (splice_nil area (at * 12)); count = refl },
  record { places = p; more = omega arith; kept_long = rw (sub_self count); records_long = refl },
)

pub next_judged : (config : List ℕ) (n : Nav) (c : Chain) (h : Held) (x : Section) (waiting area waiting₁ sets₁ times₁ area₁ waiting₂ sets₂ times₂ area₂ : List ℕ)
    (marks count at k r r₂ : ℕ) (w : Work) → at + k < 270 → length waiting ≡ waiting_length → length area ≡ area_length
    → Leaves (fields_judged config n c h x marks k w) count at waiting area waiting₁ sets₁ times₁ area₁ r → Grows (fields_judged config n c h x marks k w) count k r
    → Leaves (field_judged config n c h x marks k (start r sets₁ times₁)) r (at + k) waiting₁ area₁ waiting₂ sets₂ times₂ area₂ r₂
    → Leaves (fields_judged config n c h x marks (k + 1) w) count at waiting area waiting₂ sets₂ times₂ area₂ r₂
    × Grows (fields_judged config n c h x marks (k + 1) w) count (k + 1) r₂
unfolding fields_judged
next_judged config n c h x waiting area waiting₁ sets₁ times₁ area₁ waiting₂ sets₂ times₂ area₂ marks count at k r r₂ w small lw la l g m =
    rw (add-one k) (
      leaves config n c h x waiting area waiting₁ sets₁ times₁ area₁ waiting₂ sets₂ times₂ area₂ marks count at k r r₂ (fields_judged config n c h x marks k w) small lw la l g m,
      rw (← (add-one k)) (grows config n c h x waiting area waiting₁ sets₁ times₁ area₁ waiting₂ sets₂ times₂ area₂ marks count at k r r₂ (fields_judged config n c h x marks k w) small lw la l g m),
    )
