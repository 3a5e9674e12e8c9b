-- Judging under the held key of a section answered 0: a tag that matches has the four things. And the waiting tags, in arrival order.
use Prim.Native.Nat.{ℕ, zero, suc, ◌-◌, ◌≤◌, ◌<◌}
use mathlib.Core.Path.{◌≡◌, refl, ◌∙◌}
use mathlib.Core.Logic.{◌≢◌, ◌⊎◌, inl, inr}
use mathlib.Core.Bool.{Bool, true, false, cond}
use mathlib.Core.List.{List, ◌∷◌}
use mathlib.Core.Option.{some}
use native.Mathlib.Omega.{arith}
use lib.Dec.{leb}
use lib.ListN.{length}
use borrow.Author.Tests.{leb-true, eqb-true}
use Rattle.laws.proofs.Refusal.{by_test}
use Rattle.rules.specs.Calls.{Start, Subframe}
use Rattle.rules.specs.Chain.{Held, walk, key_of_slot, key_slot}
use Rattle.rules.specs.Claim.{Arrived, Disclosed, Vouched, HashNamed, FourThings, tag_name, NoneOf, contents_by, chain_by, root_by, slot_of_tag}
use Rattle.rules.specs.Kroot.{chain_with, root_seconds_of}
use Rattle.rules.specs.Log.{Entry, Log, Once, section_in, chain_in, chain_turns}
use Rattle.rules.specs.State.{State, entry_length, waiting_length}
use Rattle.rules.specs.Tags.{Work, tag_matches, tag_key, entry_at, entry_tag, entry_set, is_due, due_judged, dues_judged}
use Rattle.rules.specs.Times.{key_seconds, tag_slot, lowest_slot, slot_of}
use Rattle.rules.specs.Verdict.{Verdict, chain_unchanged}
use Rattle.rules.specs.declared.Chain.{Chain}
use Rattle.rules.specs.declared.Tag.{Tag}
use Rattle.rules.proofs.Entries.{length_entry, length_entry_set}
use Rattle.rules.proofs.Invariant.{HeldIs, WaitIs, NamesAre}
use Rattle.rules.proofs.Names.{Undue, next_undue, less_undue}
use Rattle.rules.proofs.TagRecords.{WorkIs, work_less, told_is, kept_is}
use Rattle.rules.proofs.Walks.{walk_through}

-- a section answered 0: the chain in force, vouched for, and the key held then
pub record SectionIs (o : Start) (b : State) (said : Verdict) (h : Held) (x : Entry) (l : Log) (sub : Subframe) : Type 0 where
  pub section_is : section_in x ≡ some sub
  pub in_force_law : chain_in l ≡ some said
  pub vouched : Once (Vouched o b said) l
  pub held_is : HeldIs (chain_by o said) (root_by said) h (x ∷ l)
  pub hash_named : HashNamed (chain_by o said) (contents_by said)

-- the seconds of a chain's sub-frame 0 are those of its contents
pub root_seconds : (ns : ℕ) (c : List ℕ) → (chain_with ns c).root ≡ root_seconds_of c
unfolding chain_with
root_seconds ns c = refl

slot_positive : (c : Chain) (g b adkd : ℕ) → 1 ≤ key_slot c g b adkd
unfolding key_slot tag_slot lowest_slot slot_of
slot_positive c g b adkd = omega arith

one_true : (m : Bool) → ◌≡◌ {A = ℕ} (cond m 1 2) 1 → m ≡ true
one_true true e = refl
one_true false e = absurd (omega (arith, e))

module _ (o : Start) (b : State) (said : Verdict) (h : Held) (x : Entry) (l : Log) (sub : Subframe) (v : SectionIs o b said h x l sub) where
  abbrev chain : Chain
  chain = chain_by o said

  disclosed_of : (h.slot ≡ 0) ⊎ Once (Disclosed chain h.slot h.key) (x ∷ l) → 1 ≤ h.slot → Once (Disclosed chain h.slot h.key) (x ∷ l)
  disclosed_of (inl z) p = absurd (omega arith)
  disclosed_of (inr d) p = d

  -- a tag that arrived, and whose key is at or below the held one
  pub matched_by : (by : Verdict) (t : Tag) (first : Bool) (navdata : List ℕ) → Once (Arrived o by (chain_turns (x ∷ l)) t first navdata) (x ∷ l) → chain_unchanged (contents_by by) (contents_by said) ≡ true
      → root_seconds_of (contents_by said) ≤ key_seconds t.time t.adkd → slot_of_tag chain t ≤ h.slot → tag_matches chain h first t navdata ≡ true → FourThings o b t navdata x l
  unfolding tag_matches tag_key key_of_slot
  matched_by by t first navdata arrived unchanged not_before le m =
      let p = slot_positive chain t.time t.block t.adkd in
      record {
        by = by;
        first = first;
        arrived = arrived;
        force = said;
        in_force_law = v.in_force_law;
        unchanged = unchanged;
        key = walk chain (h.slot - slot_of_tag chain t) (slot_of_tag chain t) h.key;
        not_before = rw (root_seconds o.ns (contents_by said)) not_before;
        of_slot = record { from_slot = h.slot; from_key = h.key; disclosed = disclosed_of v.held_is.from (omega arith); reached = le; key_is = refl };
        matches = eqb-true _ t.bits m;
        to_root = walk_through chain h.slot (slot_of_tag chain t) h.key le ∙ v.held_is.down;
        hash_named = v.hash_named;
        vouched = v.vouched;
      }

  -- ---- due tags

  due_is : (U U2 : List ℕ → Type 0) (e : List ℕ) (w : Work) → length e ≡ entry_length → WaitIs o (contents_by said) e (x ∷ l) → U (tag_name (entry_tag e)) → ((n : List ℕ) → U2 n → U n × (n ≢ tag_name (entry_tag e)))
      → WorkIs o b said x l U w → WorkIs o b said x l U2 (due_judged chain h e w)
  unfolding due_judged is_due
  due_is U U2 e w size i new less k =
      by_test (WorkIs o b said x l U2) (leb (slot_of_tag chain (entry_tag e)) h.slot)
      (λ due.
      told_is o b said x l v.in_force_law U U2 (cond (tag_matches chain h false (entry_tag e) (entry_set e)) 1 2) (entry_tag e) (entry_set e) w k (length_entry_set e size)
      (λ one.
      matched_by i.by (entry_tag e) false (entry_set e) i.arrived i.unchanged i.not_before (leb-true _ h.slot due) (one_true (tag_matches chain h false (entry_tag e) (entry_set e)) one))
      new less)
      (λ _. kept_is o b said x l v.in_force_law U U2 e w k size i new less)

  pub dues_are : (U : List ℕ → Type 0) (used : List (List ℕ)) (waiting : List ℕ) (all : ℕ) → length waiting ≡ waiting_length → all ≤ 256 → NamesAre U waiting all used
      → ((k : ℕ) → k < all → WaitIs o (contents_by said) (entry_at waiting k) (x ∷ l)) → (n : ℕ) (w : Work) → n ≤ all
      → WorkIs o b said x l (λ (m : List ℕ). NoneOf m used) w → WorkIs o b said x l (Undue used waiting n) (dues_judged chain h waiting n w)
  unfolding dues_judged
  dues_are U used waiting all size le names i zero w lt k = work_less o b said x l v.in_force_law (λ (m : List ℕ). NoneOf m used) (Undue used waiting 0) w (λ m u. u.0) k
  dues_are U used waiting all size le names i (suc n) w lt k =
      due_is (Undue used waiting n) (Undue used waiting (suc n)) (entry_at waiting n) (dues_judged chain h waiting n w) (length_entry waiting n (omega arith)) (i n (omega arith))
      (next_undue U used waiting all n (omega arith) names) (less_undue used waiting n)
      (dues_are U used waiting all size le names i n w (omega arith) k)
