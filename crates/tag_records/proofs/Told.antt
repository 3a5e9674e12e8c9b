-- What a tag leaves: whatever it was found to be, its own record of 12 bytes and its satellite's sets. Assumes nothing.
use mathlib.Core.Path.{◌≡◌, refl, ◌∙◌}
use mathlib.Core.Logic.{⊎_elim}
use mathlib.Core.Bool.{true, false}
use mathlib.Core.List.{List}
use Prim.Native.Nat.{ℕ}
use lib.Dec.{eqb}
use borrow.Author.Tests.{eq-eqb, ne_eqb}
use Rattle.laws.proofs.Splice.{either}
use Rattle.laws.specs.Lists.{splice}
use Rattle.authentic_sets.specs.Places.{Agrees as Entered}
use Rattle.rules.specs.Candidates.{agreed, pair_at}
use Rattle.rules.specs.Tags.{Work, names_satellite, told_plain, agreed_in, told_agreed, told, tag_record, record_issue}
use Rattle.rules.specs.Times.{stamp_of}
use Rattle.rules.specs.declared.Tag.{Tag}
use Rattle.tag_records.specs.Told.{start, after, Finds, Tells}

module _ (ms : ℕ) (t : Tag) (navdata : List ℕ) where
  -- a tag's work is its own, after what was there
  pub told_after : (found : ℕ) (w : Work) → told ms found t navdata w ≡ after w (told ms found t navdata (start 0 w.sets w.arrivals))
  unfolding told told_plain told_agreed agreed_in
  told_after found w =
      ⊎_elim
      (λ e. rw e (⊎_elim (λ f. rw f refl) (λ f. rw f refl) (either (names_satellite t))))
      (λ e. rw e refl)
      (either (eqb found 1))

  module _ (sets arrivals : List ℕ) where
    pub found_other : (found : ℕ) → (found ≡ 1 → ⊥) → Finds (told ms found t navdata (start 0 sets arrivals)) t navdata sets arrivals found
    unfolding told told_plain
    found_other found h = rw (ne_eqb found 1 h) (record { sets = refl; arrivals = refl; record_is = refl })

    pub agrees_nowhere : (found : ℕ) → found ≡ 1 → names_satellite t ≡ false → Finds (told ms found t navdata (start 0 sets arrivals)) t navdata sets arrivals 9
    unfolding told told_plain
    agrees_nowhere found e f = rw (eq-eqb found 1 e, f) (record { sets = refl; arrivals = refl; record_is = refl })

    pub agrees_there : (found : ℕ) (sets' arrivals' : List ℕ) (r : ℕ) → found ≡ 1 → names_satellite t ≡ true
        → Entered (agreed ms (stamp_of t.time) navdata (pair_at sets arrivals t.prn)) t.prn sets arrivals sets' arrivals' r
        → Finds (told ms found t navdata (start 0 sets arrivals)) t navdata sets' arrivals' r
    unfolding told told_agreed agreed_in
    agrees_there found sets' arrivals' r e f a =
        rw (eq-eqb found 1 e, f) (record { sets = a.places; arrivals = a.numbers; record_is = rw a.outcome refl })

-- the record and the sets of a tag
pub told_leaves : (w : Work) (t : Tag) (navdata area sets' arrivals' area' : List ℕ) (o at issue : ℕ)
    → Finds w t navdata sets' arrivals' o → issue ≡ record_issue o navdata → area' ≡ splice area at (tag_record o t issue)
    → Tells w at area sets' arrivals' area'
told_leaves w t navdata area sets' arrivals' area' o at issue f ei ea =
    record { sets = f.sets; arrivals = f.arrivals; records = ea ∙ rw (ei, f.record_is) refl }
