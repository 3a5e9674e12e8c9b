-- One entry more of the sweep: its work adds to that of the entries before it, and the regions hold the sum.
-- Assumes nothing.
use mathlib.Core.Path.{◌≡◌, refl, sym, ap, ◌∙◌}
use mathlib.Core.List.{List, ◌++◌, append-nil}
use Prim.Native.Nat.{ℕ, zero, suc, ◌+◌, ◌-◌, ◌*◌, ◌≤◌, ◌<◌}
use native.Mathlib.Omega.{arith}
use native.Mathlib.Numerals.{add-one}
use lib.ListN.{length, get_or, length-append}
use Rattle.laws.specs.Lists.{splice}
use Rattle.laws.proofs.Splice.{splice-append, splice_nil}
use Rattle.std.proofs.lemmas.List.{get_or_default}
use Rattle.rules.specs.Outcomes.{outcome_number}
use Rattle.rules.specs.declared.Outcome.{Outcome}
use Rattle.rules.specs.declared.Outcome.TheVariants.{Agrees, Wrong, NoUsableSet, NotAllowed, Waits, SequenceUnfit, NoPlace, Lost}
use Rattle.due_tag_keys.specs.Outcomes.{due_number}
use Rattle.rules.specs.Tags.{Work, told, kept, entry_at, entry_tag, entry_set}
use Rattle.rules.proofs.Entries.{length_entry}
use Rattle.waiting_tags.proofs.Entries.{untouched}
use Rattle.rules.proofs.TagRecords.{told_long}
use Rattle.tag_records.proofs.Told.{told_after}
use Rattle.tag_records.specs.Told.{start, after, Tells, Leaves, Counts}
use Rattle.due_tags.specs.Swept.{swept_one, swept}
use Rattle.rules.specs.State.{entry_length, waiting_length, area_length}

-- a part right after the one at the front
after_front : (d s t : List ℕ) (a : ℕ) → length s ≡ a → a + length t ≤ length d → splice (splice d 0 s) a t ≡ splice d 0 (s ++ t)
after_front d s t a e h =
    let q : 0 + length s ≡ a = omega arith in
    rw (← q) (splice-append d 0 s t (omega arith))

-- ---- an entry's work adds to what was there

abbrev alone : ℕ → ℕ → List ℕ → Work → Work
alone ms o e w = swept_one ms o e (start w.count w.sets w.arrivals)

-- a due tag's work, after what was there and alone
abbrev Due : ℕ → ℕ → List ℕ → Work → Type 0
Due ms o e w = told ms o (entry_tag e) (entry_set e) w ≡ after w (told ms o (entry_tag e) (entry_set e) (start 0 w.sets w.arrivals))

due : (ms o : ℕ) (e : List ℕ) (w : Work) → Due ms o e w
due ms o e w = told_after ms (entry_tag e) (entry_set e) o w

due_alone : (ms o : ℕ) (e : List ℕ) (w : Work) → Due ms o e (start w.count w.sets w.arrivals)
due_alone ms o e w = told_after ms (entry_tag e) (entry_set e) o (start w.count w.sets w.arrivals)

kept_more : (ms o : ℕ) (e : List ℕ) (w : Work) → (swept_one ms o e w).kept ≡ w.kept ++ (alone ms o e w).kept
unfolding swept_one kept
kept_more ms zero e w = refl
kept_more ms (suc o) e w = rw (due ms (suc o) e w, due_alone ms (suc o) e w) (sym (append-nil w.kept))

records_more : (ms o : ℕ) (e : List ℕ) (w : Work) → (swept_one ms o e w).records ≡ w.records ++ (alone ms o e w).records
unfolding swept_one kept
records_more ms zero e w = sym (append-nil w.records)
records_more ms (suc o) e w = rw (due ms (suc o) e w, due_alone ms (suc o) e w) refl

sets_more : (ms o : ℕ) (e : List ℕ) (w : Work) → (swept_one ms o e w).sets ≡ (alone ms o e w).sets
unfolding swept_one kept
sets_more ms zero e w = refl
sets_more ms (suc o) e w = rw (due ms (suc o) e w, due_alone ms (suc o) e w) refl

arrivals_more : (ms o : ℕ) (e : List ℕ) (w : Work) → (swept_one ms o e w).arrivals ≡ (alone ms o e w).arrivals
unfolding swept_one kept
arrivals_more ms zero e w = refl
arrivals_more ms (suc o) e w = rw (due ms (suc o) e w, due_alone ms (suc o) e w) refl

count_more : (ms o : ℕ) (e : List ℕ) (w : Work) → (swept_one ms o e w).count ≡ (alone ms o e w).count
unfolding swept_one kept
count_more ms zero e w = refl
count_more ms (suc o) e w = rw (due ms (suc o) e w, due_alone ms (suc o) e w) refl

-- how long the work of one entry is
alone_long : (ms o : ℕ) (e : List ℕ) (w : Work) → length e ≡ entry_length → (length (alone ms o e w).kept ≤ entry_length) × (length (alone ms o e w).records ≤ 12)
unfolding swept_one kept
alone_long ms zero e w h = (omega arith, omega arith)
alone_long ms (suc o) e w h = (
  rw (due_alone ms (suc o) e w) (omega arith),
  omega (arith, told_long ms (entry_tag e) (entry_set e) (suc o) (start w.count w.sets w.arrivals)),
)

counts_more : (ms o : ℕ) (e : List ℕ) (w : Work) (k r : ℕ) → length e ≡ entry_length → r ≡ w.count → Counts w k r → Counts (swept_one ms o e w) (k + 1) (swept_one ms o e w).count
unfolding swept_one kept
counts_more ms zero e w k r h q n =
    record {
      few = omega (arith, n.few);
      kept_long = simp length-append (omega (arith, n.kept_long));
      records_long = omega (arith, n.few, n.records_long);
    }
counts_more ms (suc o) e w k r h q n =
    let l = told_long ms (entry_tag e) (entry_set e) (suc o) w in
    record {
      few = rw (due ms (suc o) e w) (omega (arith, n.few));
      kept_long = rw (due ms (suc o) e w) (omega (arith, n.kept_long));
      records_long = l ∙ rw (due ms (suc o) e w) (omega (arith, n.few, n.records_long));
    }

-- ---- and so do the regions
module _ (waiting area waiting₁ sets₁ times₁ area₁ waiting₂ sets₂ times₂ area₂ : List ℕ) (ms k r r₂ o : ℕ) (w : Work)
    (small : k < 256) (long-waiting : length waiting ≡ waiting_length) (long-area : length area ≡ area_length)
    (l : Leaves w 0 0 waiting area waiting₁ sets₁ times₁ area₁ r) (n : Counts w k r)
    (s : Leaves (swept_one ms o (entry_at waiting₁ k) (start r sets₁ times₁)) r (k - r) waiting₁ area₁ waiting₂ sets₂ times₂ area₂ r₂) where
  same_entry : entry_at waiting₁ k ≡ entry_at waiting k
  same_entry =
      ap (λ (x : List ℕ). entry_at x k) l.entries
      ∙ untouched waiting w.kept r k n.kept_long n.few (omega arith)

  same_work : swept_one ms o (entry_at waiting₁ k) (start r sets₁ times₁) ≡ alone ms o (entry_at waiting k) w
  same_work = rw (same_entry, l.sets, l.arrivals, l.count)

  more : Leaves (swept_one ms o (entry_at waiting k) w) 0 0 waiting area waiting₂ sets₂ times₂ area₂ r₂
  more =
      let e = entry_at waiting k in
      let m = alone_long ms o e w (length_entry waiting k (omega arith)) in
      let few = n.few in
      record {
        entries =
            s.entries
            ∙ rw (same_work, l.entries, kept_more ms o e w) (after_front waiting w.kept (alone ms o e w).kept (r * entry_length) n.kept_long (omega arith));
        sets = s.sets ∙ rw (same_work) (sym (sets_more ms o e w));
        arrivals = s.arrivals ∙ rw (same_work) (sym (arrivals_more ms o e w));
        records =
            s.records
            ∙ rw (same_work, l.records, records_more ms o e w) (after_front area w.records (alone ms o e w).records ((k - r) * 12) n.records_long (omega arith));
        count = s.count ∙ rw (same_work) (sym (count_more ms o e w));
      }

  counted : Counts (swept_one ms o (entry_at waiting k) w) (k + 1) r₂
  counted =
      rw more.count (counts_more ms o (entry_at waiting k) w k r (length_entry waiting k (omega arith)) l.count n)

-- ---- what one entry leaves

-- an entry that is not due stays, and no record is written
pub stays_leaves : (ms o m kept : ℕ) (e waiting sets arrivals area waiting' : List ℕ) → o ≡ 0 → waiting' ≡ splice waiting (kept * entry_length) e
    → Leaves (swept_one ms o e (start kept sets arrivals)) kept m waiting area waiting' sets arrivals area (kept + 1)
unfolding swept_one kept
stays_leaves ms zero m kept e waiting sets arrivals area waiting' p q =
    record { entries = q; sets = refl; arrivals = refl; records = sym (splice_nil area (m * 12)); count = refl }
stays_leaves ms (suc o) m kept e waiting sets arrivals area waiting' p q = absurd (omega arith)

-- an entry that is due leaves its place
pub due_leaves : (ms o m kept : ℕ) (e waiting sets arrivals area sets' arrivals' area' : List ℕ) → (o ≡ 0 → ⊥)
    → Tells (told ms o (entry_tag e) (entry_set e) (start 0 sets arrivals)) (m * 12) area sets' arrivals' area'
    → Leaves (swept_one ms o e (start kept sets arrivals)) kept m waiting area waiting sets' arrivals' area' kept
unfolding swept_one
due_leaves ms zero m kept e waiting sets arrivals area sets' arrivals' area' p q = absurd (p refl)
due_leaves ms (suc o) m kept e waiting sets arrivals area sets' arrivals' area' p q =
    rw (told_after ms (entry_tag e) (entry_set e) (suc o) (start kept sets arrivals))
    (record { entries = sym (splice_nil waiting (kept * entry_length)); sets = q.sets; arrivals = q.arrivals; records = q.records; count = refl })

-- ---- no entry yet, and one more of the first n

pub none_swept : (ms : ℕ) (outcomes : List Outcome) (waiting sets arrivals area : List ℕ)
    → Leaves (swept ms outcomes waiting 0 (start 0 sets arrivals)) 0 0 waiting area waiting sets arrivals area 0 × Counts (swept ms outcomes waiting 0 (start 0 sets arrivals)) 0 0
unfolding swept
none_swept ms outcomes waiting sets arrivals area = (
  record { entries = sym (splice_nil waiting 0); sets = refl; arrivals = refl; records = sym (splice_nil area 0); count = refl },
  record { few = omega arith; kept_long = refl; records_long = refl },
)

pub one_swept : (ms : ℕ) (outcomes : List Outcome) (waiting area waiting₁ sets₁ times₁ area₁ waiting₂ sets₂ times₂ area₂ : List ℕ) (k r r₂ : ℕ) (w : Work)
    → k < length outcomes → k < 256 → length waiting ≡ waiting_length → length area ≡ area_length
    → Leaves (swept ms outcomes waiting k w) 0 0 waiting area waiting₁ sets₁ times₁ area₁ r → Counts (swept ms outcomes waiting k w) k r
    → Leaves (swept_one ms (due_number (get_or outcomes k Agrees)) (entry_at waiting₁ k) (start r sets₁ times₁)) r (k - r) waiting₁ area₁ waiting₂ sets₂ times₂ area₂ r₂
    → Leaves (swept ms outcomes waiting (k + 1) w) 0 0 waiting area waiting₂ sets₂ times₂ area₂ r₂ × Counts (swept ms outcomes waiting (k + 1) w) (k + 1) r₂
unfolding swept
one_swept ms outcomes waiting area waiting₁ sets₁ times₁ area₁ waiting₂ sets₂ times₂ area₂ k r r₂ w within small lw la l n s =
    let o = due_number (get_or outcomes k Waits) in
    let t = rw (get_or_default outcomes k Agrees Waits within) at s in
    rw (add-one k) (
      more waiting area waiting₁ sets₁ times₁ area₁ waiting₂ sets₂ times₂ area₂ ms k r r₂ o (swept ms outcomes waiting k w) small lw la l n t,
      rw (← (add-one k)) (counted waiting area waiting₁ sets₁ times₁ area₁ waiting₂ sets₂ times₂ area₂ ms k r r₂ o (swept ms outcomes waiting k w) small lw la l n t),
    )

-- what a tag is found to be that no longer waits
pub found_number : (o : Outcome) → (o ≡ Waits → ⊥) → (due_number o ≡ outcome_number o) × (due_number o ≡ 0 → ⊥)
found_number Agrees n = (refl, λ e. omega (arith, e))
found_number Wrong n = (refl, λ e. omega (arith, e))
found_number NoUsableSet n = (refl, λ e. omega (arith, e))
found_number NotAllowed n = (refl, λ e. omega (arith, e))
found_number Waits n = absurd (n refl)
found_number SequenceUnfit n = (refl, λ e. omega (arith, e))
found_number NoPlace n = (refl, λ e. omega (arith, e))
found_number Lost n = (refl, λ e. omega (arith, e))
