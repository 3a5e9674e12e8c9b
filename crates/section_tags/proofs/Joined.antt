-- The section's own tags after the waiting tags that were due: what both leave is what the rule says of them in one (rules, Calls.antt,
-- `tags_worked`).
-- Assumes nothing.
use mathlib.Core.Path.{◌≡◌, refl, sym, ◌∙◌}
use mathlib.Core.List.{List, append-nil, append_assoc}
use Prim.Native.Nat.{ℕ, zero, suc, ◌+◌, ◌-◌, ◌*◌, ◌≤◌}
use native.Mathlib.Omega.{arith}
use lib.ListN.{length, length-append}
use Rattle.rules.specs.Chain.{Held}
use Rattle.rules.specs.Received.{fields_judged}
use Rattle.rules.specs.State.{Nav, entry_length, waiting_length, area_length}
use Rattle.rules.specs.Tags.{Work, Section}
use Rattle.rules.specs.declared.Chain.{Chain}
use Rattle.tag_records.specs.Told.{start, Leaves, Counts}
use Rattle.laws.proofs.Splice.{splice-after}
use Rattle.section_tags.specs.Own.{Behind, Grows}
use Rattle.section_tags.proofs.Fields.{one, field_kept, field_records, field_sets, field_arrivals, field_count}

module _ (config : List ℕ) (n : Nav) (c : Chain) (h : Held) (x : Section) (marks : ℕ) (w : Work) where
  abbrev alone : ℕ → Work
  alone k = fields_judged config n c h x marks k (start w.count w.sets w.arrivals)

  abbrev after : ℕ → Work
  after k = fields_judged config n c h x marks k w

  same_one : (k : ℕ) → Behind w (alone k) (after k) → one config n c h x marks k (after k) ≡ one config n c h x marks k (alone k)
  same_one k b = rw (b.sets_are, b.arrivals_are, b.count_is)

  -- fields only add to what is there
  pub behind : (k : ℕ) → Behind w (alone k) (after k)
  unfolding fields_judged
  behind zero =
      record { kept_is = sym (append-nil w.kept); records_are = sym (append-nil w.records); sets_are = refl; arrivals_are = refl; count_is = refl }
  behind (suc k) =
      let b = behind k in
      let e = same_one k b in
      let u = after k in
      let v = alone k in
      record {
        kept_is =
            field_kept config n c h x marks k u
            ∙ rw (e, b.kept_is, field_kept config n c h x marks k v) (append_assoc w.kept v.kept (one config n c h x marks k v).kept);
        records_are =
            field_records config n c h x marks k u
            ∙ rw (e, b.records_are, field_records config n c h x marks k v) (append_assoc w.records v.records (one config n c h x marks k v).records);
        sets_are = field_sets config n c h x marks k u ∙ rw e (sym (field_sets config n c h x marks k v));
        arrivals_are = field_arrivals config n c h x marks k u ∙ rw e (sym (field_arrivals config n c h x marks k v));
        count_is = field_count config n c h x marks k u ∙ rw e (sym (field_count config n c h x marks k v));
      }

-- the due tags' work w, of m waiting tags, then that of the first k fields
pub both_leave : (config : List ℕ) (n : Nav) (c : Chain) (h : Held) (x : Section) (waiting area waiting₁ sets₁ times₁ area₁ waiting₂ sets₂ times₂ area₂ : List ℕ)
    (marks m k r r₂ : ℕ) (w : Work) → length waiting ≡ waiting_length → length area ≡ area_length → m - r + k ≤ 270
    → Leaves w 0 0 waiting area waiting₁ sets₁ times₁ area₁ r → Counts w m r
    → Leaves (fields_judged config n c h x marks k (start r sets₁ times₁)) r (m - r) waiting₁ area₁ waiting₂ sets₂ times₂ area₂ r₂
    → Grows (fields_judged config n c h x marks k (start r sets₁ times₁)) r k r₂
    → Leaves (fields_judged config n c h x marks k w) 0 0 waiting area waiting₂ sets₂ times₂ area₂ r₂
    × ((length (fields_judged config n c h x marks k w).kept ≡ r₂ * entry_length) × (length (fields_judged config n c h x marks k w).records ≡ (m - r + k) * 12))
both_leave config n c h x waiting area waiting₁ sets₁ times₁ area₁ waiting₂ sets₂ times₂ area₂ marks m k r r₂ w lw la few l d o g =
    let v = fields_judged config n c h x marks k (start r sets₁ times₁) in
    let e : v ≡ fields_judged config n c h x marks k (start w.count w.sets w.arrivals) = rw (l.sets, l.arrivals, l.count) in
    let b : Behind w v (fields_judged config n c h x marks k w) = rw e (behind config n c h x marks w k) in
    let gk = g.kept_long in
    let gr = g.records_long in
    let gm = g.more in
    let gp = g.places in
    let dk = d.kept_long in
    let dr = d.records_long in (
      record {
        entries =
            o.entries
            ∙ rw (l.entries, b.kept_is) (splice-after waiting 0 (r * entry_length) w.kept v.kept (omega arith) (omega arith));
        sets = o.sets ∙ sym b.sets_are;
        arrivals = o.arrivals ∙ sym b.arrivals_are;
        records =
            o.records
            ∙ rw (l.records, b.records_are) (splice-after area 0 ((m - r) * 12) w.records v.records (omega arith) (omega arith));
        count = o.count ∙ sym b.count_is;
      },
      (
        rw (b.kept_is, length-append) (omega arith),
        rw (b.records_are, length-append) (omega arith),
      ),
    )
