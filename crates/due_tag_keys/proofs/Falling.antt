-- Keys in falling slot order: a walk goes on where the last one ended, and once the tags of slot m are judged and no slot lies between
-- m and the next, every tag above the next has its outcome.
-- Assumes nothing.
use mathlib.Core.Path.{◌≡◌, refl, sym, ap, ◌∙◌}
use mathlib.Core.Bool.{Bool, true, false, cond}
use mathlib.Core.Logic.{◌⊎◌, inl, inr, ⊎_elim}
use mathlib.Core.List.{List}
use Prim.Native.Nat.{ℕ, ◌+◌, ◌≤◌, ◌<◌}
use native.Mathlib.Omega.{arith}
use lib.Dec.{ltb, eqb}
use lib.ListN.{length, take, get_or, set}
use lib.Seq.{get_or-set_same, get_or-set_other}
use borrow.Author.Tests.{lt-ltb, le-ltb, le-leb, lt-leb, eq-eqb, ne_eqb}
use Rattle.laws.specs.Lists.{splice}
use Rattle.laws.proofs.Splice.{below?}
use Rattle.rules.specs.Chain as S
use Rattle.rules.specs.Times as T
use Rattle.rules.specs.Tags.{entry_at, entry_tag, entry_set, is_due, tag_key, tag_matches, tag_message, mac_bits}
use Rattle.rules.specs.Outcomes.{outcome_number}
use Rattle.rules.specs.declared.Chain.{Chain}
use Rattle.rules.specs.declared.Outcome.{Outcome}
use Rattle.rules.specs.declared.Outcome.TheVariants.{Agrees, Wrong, NoUsableSet, NotAllowed, Waits, SequenceUnfit, NoPlace, Lost}
use Rattle.rules.specs.declared.Tag.{Tag}
use Rattle.chain.proofs.Steps.{walk_on, walked_key}
use Rattle.due_tag_keys.specs.Outcomes.{entry_slot, TagOfSlot, due_number, match_outcome, due_outcome, Outcomes, JudgedAt, JudgedAbove}

-- ---- a list that is filled place by place

equal_or_below : (k i : ℕ) → k < i + 1 → (k < i) ⊎ (k ≡ i)
equal_or_below k i h = ⊎_elim (λ p. inl p) (λ p. inr (omega arith)) (below? k i)

pub filled_one : (f : ℕ → ℕ) (l : List Outcome) (i : ℕ) (v : Outcome) → i < length l → ((k : ℕ) → k < i → due_number (get_or l k Waits) ≡ f k) → due_number v ≡ f i
    → (k : ℕ) → k < i + 1 → due_number (get_or (set l i v) k Waits) ≡ f k
filled_one f l i v h p e k q =
    ⊎_elim
    (λ r. ap due_number (get_or-set_other l i k v Waits (λ z. absurd (omega arith))) ∙ p k r)
    (λ r. ap (λ (j : ℕ). due_number (get_or (set l i v) j Waits)) r ∙ ap due_number (get_or-set_same l i v Waits h) ∙ e ∙ ap f (sym r))
    (equal_or_below k i q)

pub behind_kept : (l m : List Outcome) (i : ℕ) (v : Outcome) → ((k : ℕ) → i ≤ k → get_or l k Waits ≡ get_or m k Waits)
    → (k : ℕ) → i + 1 ≤ k → get_or (set l i v) k Waits ≡ get_or m k Waits
behind_kept l m i v p k h = get_or-set_other l i k v Waits (λ z. absurd (omega arith)) ∙ p k (omega arith)

-- a tag that is judged agrees or is wrong
pub judged_number : (o : Outcome) (b : Bool) → outcome_number o ≡ cond b 1 2 → due_number o ≡ cond b 1 2
judged_number Agrees b e = e
judged_number Wrong b e = e
judged_number NoUsableSet b e = e
judged_number NotAllowed b e = e
judged_number Waits true e = absurd (omega (arith, e))
judged_number Waits false e = absurd (omega (arith, e))
judged_number SequenceUnfit b e = e
judged_number NoPlace b e = e
judged_number Lost b e = e

-- ---- slots

-- the best of one slot more
pub best_one : (f : ℕ → ℕ) (k below best r : ℕ) → ((j : ℕ) → j < k → f j < below → f j ≤ best) → best ≤ r → (f k < below → f k ≤ r) → (j : ℕ) → j < k + 1 → f j < below → f j ≤ r
best_one f k below best r p q s j h b =
    ⊎_elim
    (λ a. let z = p j a b in omega arith)
    (λ a. rw a (s (rw (← a) b)))
    (equal_or_below j k h)

-- it is 0 or a tag's, as the best before it was
pub tag_one : (c : Chain) (waiting : List ℕ) (k best slot r : ℕ) → slot ≡ entry_slot c (entry_at waiting k) → (best ≡ 0) ⊎ TagOfSlot c waiting k best → (r ≡ best) ⊎ (r ≡ slot) → (r ≡ 0) ⊎ TagOfSlot c waiting (k + 1) r
tag_one c waiting k best slot r e b =
    ⊎_elim
    (λ p. ⊎_elim (λ z. inl (p ∙ z)) (λ t. inr (record { place = t.place; waits = omega (arith, t.waits); slot_is = t.slot_is ∙ sym p })) b)
    (λ p. inr (record { place = k; waits = omega arith; slot_is = sym e ∙ sym p }))

pub tag_of_more : (c : Chain) (waiting : List ℕ) (k n r : ℕ) → k ≤ n → (r ≡ 0) ⊎ TagOfSlot c waiting k r → (r ≡ 0) ⊎ TagOfSlot c waiting n r
tag_of_more c waiting k n r h =
    ⊎_elim (λ z. inl z) (λ t. inr (record { place = t.place; waits = omega (arith, t.waits); slot_is = t.slot_is }))

-- slot 0 is the root's alone
pub slot_positive : (c : Chain) (e : List ℕ) → 1 ≤ entry_slot c e
unfolding entry_slot S.key_slot T.tag_slot T.lowest_slot T.slot_of
slot_positive c e = omega arith

module _ (c : Chain) (h : S.Held) (e : List ℕ) where
  pub due : entry_slot c e ≤ h.slot → due_outcome c h e ≡ match_outcome c h e
  unfolding due_outcome is_due entry_slot
  due p = rw (le-leb (entry_slot c e) h.slot p)

  pub not_due : h.slot < entry_slot c e → due_outcome c h e ≡ 0
  unfolding due_outcome is_due entry_slot
  not_due p = rw (lt-leb (entry_slot c e) h.slot p)

-- the test of an entry's tag under the key of its slot
pub matches_is : (c : Chain) (h : S.Held) (e set : List ℕ) (t : Tag) (r : Bool) → t ≡ entry_tag e → set ≡ entry_set e
    → r ≡ eqb (mac_bits c.mf c.ms (S.key_of_slot c h (entry_slot c e)) (tag_message t set)) t.bits → r ≡ tag_matches c h false (entry_tag e) (entry_set e)
unfolding tag_matches tag_key entry_slot
matches_is c h e set t r p q u = u ∙ rw (p, q)

-- ---- a walk goes on

-- the key after a walk from slot `at` to slot m
pub key-after : (c : Chain) (h : S.Held) (at m : ℕ) (key out : List ℕ) → c.width ≤ S.hash_bytes c.hf → length key ≡ 32 → m ≤ at → at ≤ h.slot
    → take c.width key ≡ S.key_of_slot c h at → out ≡ splice key 0 (S.key_of_slot c (S.held at (take c.width key)) m)
    → take c.width out ≡ S.key_of_slot c h m
key-after c h at m key out w n p q e o =
    walked_key c at m key out w n o
    ∙ ap (λ (k : List ℕ). S.key_of_slot c (S.held at k) m) e
    ∙ walk_on c h at m p q

-- ---- tags above a slot

module _ (c : Chain) (h : S.Held) (waiting : List ℕ) (n : ℕ) where
  -- no tag yet: none of the slots up to the held one is above m
  pub none_above : (m : ℕ) → ((k : ℕ) → k < n → entry_slot c (entry_at waiting k) < h.slot + 1 → entry_slot c (entry_at waiting k) ≤ m)
      → (outcomes : List Outcome) → ((k : ℕ) → k < n → due_number (get_or outcomes k Waits) ≡ 0) → JudgedAbove c h waiting n m outcomes
  none_above m p outcomes z k q =
      let s = entry_slot c (entry_at waiting k) in
      z k q
      ∙ ⊎_elim
      (λ a. sym (rw (le-ltb m s (p k q a))))
      (λ a. sym (by_cond (ltb m s) (not_due c h (entry_at waiting k) (omega arith))))
      (below? s (h.slot + 1))
    where
      by_cond : (b : Bool) {x : ℕ} → x ≡ 0 → cond b x 0 ≡ 0
      by_cond true e = e
      by_cond false e = refl

  -- the tags of slot m are judged too, and no slot lies between the next one and m
  pub next_above : (m next : ℕ) (before after : List Outcome) → m ≤ h.slot → next < m → JudgedAbove c h waiting n m before → JudgedAt c h waiting n m before after
      → ((k : ℕ) → k < n → entry_slot c (entry_at waiting k) < m → entry_slot c (entry_at waiting k) ≤ next) → JudgedAbove c h waiting n next after
  next_above m next before after held less b j p k q =
      let e = entry_at waiting k in
      let s = entry_slot c e in
      ⊎_elim
      (λ a. j k q ∙ rw (ne_eqb s m (λ z. absurd (omega arith)), le-ltb next s (p k q a)) (b k q ∙ rw (le-ltb m s (omega arith))))
      (λ a. ⊎_elim
      (λ d. j k q ∙ rw (ne_eqb s m (λ z. absurd (omega arith)), lt-ltb next s (omega arith)) (b k q ∙ rw (lt-ltb m s d)))
      (λ d. j k q ∙ rw (eq-eqb s m (omega arith), lt-ltb next s (omega arith)) (sym (due c h e (omega arith))))
      (below? m s))
      (below? s m)

  -- at slot 0 all are judged
  pub all_judged : (m : ℕ) (outcomes : List Outcome) → m ≤ 0 → JudgedAbove c h waiting n m outcomes → Outcomes c h waiting n outcomes
  all_judged m outcomes z b k q =
      let s = entry_slot c (entry_at waiting k) in
      b k q ∙ rw (lt-ltb m s (omega (arith, slot_positive c (entry_at waiting k))))
