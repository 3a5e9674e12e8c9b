-- A word that is taken is the last one of its satellite and type, and all others stay; a refused word changes nothing.
use Prim.Native.Nat.{ℕ, ◌+◌, ◌-◌, ◌*◌, ◌≤◌, ◌<◌}
use mathlib.Core.Path.{◌≡◌, refl, sym, ◌∙◌}
use mathlib.Core.Logic.{◌≢◌, inl, inr, ⊎_elim}
use mathlib.Core.Bool.{Bool, true, false, cond, ◌&&◌, not}
use mathlib.Core.List.{List, ◌∷◌}
use native.Mathlib.Nat.{le_refl}
use native.Mathlib.Omega.{arith}
use lib.Dec.{eqb, leb}
use lib.ListN.{length, get_or, set}
use lib.Seq.{get_or-set_same, get_or-set_other}
use borrow.Author.Tests.{eqb-true, eqb-false, not-false, le-leb}
use Rattle.laws.specs.Refusal.{first_refusal}
use Rattle.laws.proofs.Refusal.{clear, by_test, unless_accepted}
use Rattle.laws.proofs.Splice.{part_splice_same, below?}
use Rattle.laws.proofs.Tests.{and_left, and_right, neither, both_true}
use Rattle.rules.specs.Calls.{Start, Word, word_call, word_checks, word_unfit, word_taken}
use Rattle.rules.specs.Claim.{Fair}
use Rattle.rules.specs.Log.{word, Entry, Log, state_at, step, last_word}
use Rattle.rules.specs.Navdata.{Came, word_type, held_type, word_at, word_place, word_stored}
use Rattle.rules.specs.State.{State, Nav, prn_valid, word_shaped, words_length, stamps_length, last_subframe_of}
use Rattle.rules.specs.Times.{stamp_of}
use Rattle.rules.proofs.Bounds.{within_range, prn_range}
use Rattle.rules.proofs.Choices.{no, answered, not-zero}
use Rattle.rules.proofs.Invariant.{Inv, WordsAre, Place}
use Rattle.rules.proofs.Later.{entry, stepped_at, same_inv, refused_inv, still}
use Rattle.rules.proofs.Lengths.{WordSized, word_sized}
use Rattle.rules.proofs.Names.{Onward}
use Rattle.rules.proofs.Parts.{part_beside}
use Rattle.rules.proofs.ReadsFair.{plain_fair}
use Rattle.rules.proofs.Refused.{word_kept}

-- ---- what the checks say

record Fit (s : State) (w : Word) : Type 0 where
  size : WordSized s
  bytes : length w.bytes ≡ 16
  prn_low : 1 ≤ w.prn
  prn_high : w.prn ≤ 36

fit : (s : State) (w : Word) → (word_call s w).code ≡ 0 → Fit s w
unfolding word_call word_checks word_unfit
fit s w h =
    let c = clear (word_checks s w) tt h in
    let a = not-false (word_shaped s && eqb (length w.bytes) 16) c.0 in
    let p = prn_range w.prn (not-false (prn_valid w.prn) (neither (not (prn_valid w.prn)) _ c.1.0).0) in
    record {
      size = word_sized s (and_left (word_shaped s) (eqb (length w.bytes) 16) a);
      bytes = eqb-true (length w.bytes) 16 (and_right (word_shaped s) (eqb (length w.bytes) 16) a);
      prn_low = p.0;
      prn_high = p.1;
    }

-- ---- places

place_bound : (prn kind : ℕ) → Place prn kind → word_place prn kind < stamps_length
unfolding word_place
place_bound prn kind p =
    let a = p.prn_low in
    let b = p.prn_high in
    let c = p.kind_low in
    let d = p.kind_high in
    omega arith

-- one place is one satellite and one type
places_apart : (p k q j : ℕ) → Place p k → Place q j → word_place q j ≡ word_place p k → (p ≡ q) × (k ≡ j)
unfolding word_place
places_apart p k q j a b e =
    let a1 = a.prn_low in
    let a2 = a.prn_high in
    let a3 = a.kind_low in
    let a4 = a.kind_high in
    let b1 = b.prn_low in
    let b2 = b.prn_high in
    let b3 = b.kind_low in
    let b4 = b.kind_high in
    (omega arith, omega arith)

-- what is read at a word's place after it is stored, and at another
module _ (n : Nav) (w : List ℕ) (stamp p k : ℕ) (size : length n.words ≡ words_length) (stamps : length n.stamps ≡ stamps_length) (bytes : length w ≡ 16) (at : Place p k) where
  fits : word_place p k * 16 + length w ≤ length n.words
  fits = let b = place_bound p k at in omega arith

  same_bytes : word_at (word_stored n p k w stamp).words p k ≡ w
  unfolding word_at word_stored
  same_bytes = part_splice_same n.words (word_place p k * 16) w fits 16 (sym bytes)

  same_stamp : get_or (word_stored n p k w stamp).stamps (word_place p k) 0 ≡ stamp
  unfolding word_stored
  same_stamp = let b = place_bound p k at in get_or-set_same n.stamps (word_place p k) stamp 0 (omega arith)

  module _ (q j : ℕ) (other : Place q j) (apart : word_place q j ≢ word_place p k) where
    other_bytes : word_at (word_stored n p k w stamp).words q j ≡ word_at n.words q j
    unfolding word_at word_stored
    other_bytes =
        let b = place_bound q j other in
        part_beside n.words (word_place p k * 16) w fits (word_place q j * 16) 16 (omega arith)
        (⊎_elim (λ h. inl (omega arith)) (λ h. inr (omega (arith, apart, bytes, h))) (below? (word_place q j) (word_place p k)))

    other_stamp : get_or (word_stored n p k w stamp).stamps (word_place q j) 0 ≡ get_or n.stamps (word_place q j) 0
    unfolding word_stored
    other_stamp = get_or-set_other n.stamps (word_place p k) (word_place q j) stamp 0 apart

-- ---- the words after it

module _ (s : State) (w : Word) (x : Entry) (l : Log) (is : x.call ≡ word w) (ok : x.reply.code ≡ 0) (f : Fit s w) (v : WordsAre s.nav l) where
  kind : ℕ
  kind = word_type w.bytes

  stored : Nav
  stored = word_stored s.nav w.prn kind w.bytes (stamp_of w.time)

  -- the word as the history says it
  abbrev came : Came
  came = record { bytes = w.bytes; stamp = stamp_of w.time }

  module _ (held : held_type kind ≡ true) where
    place : Place w.prn kind
    unfolding held_type kind
    place =
        let k = within_range 1 5 (word_type w.bytes) held in
        record { prn_low = f.prn_low; prn_high = f.prn_high; kind_low = k.0; kind_high = k.1 }

    -- a place that is not the word's
    elsewhere : (prn k : ℕ) → Place prn k → (a b : Bool) → eqb w.prn prn ≡ a → eqb kind k ≡ b → (a && b) ≡ false → word_place prn k ≢ word_place w.prn kind
    elsewhere prn k p a false e g n z = eqb-false kind k g (places_apart w.prn kind prn k place p z).1
    elsewhere prn k p true true e g n z = no n refl
    elsewhere prn k p false true e g n z = eqb-false w.prn prn e (places_apart w.prn kind prn k place p z).0

    now_bytes : (prn k : ℕ) → Place prn k → word_at stored.words prn k ≡ (last_word (x ∷ l) prn k).bytes
    unfolding stored kind
    now_bytes prn k p = rw (is, ok) (go (eqb w.prn prn) (eqb kind k) refl refl)
      where
        off : word_place prn k ≢ word_place w.prn kind → word_at stored.words prn k ≡ (last_word l prn k).bytes
        off a = other_bytes s.nav w.bytes (stamp_of w.time) w.prn kind f.size.words f.size.stamps f.bytes place prn k p a ∙ v.bytes prn k p

        go : (a b : Bool) → eqb w.prn prn ≡ a → eqb kind k ≡ b → word_at stored.words prn k ≡ (cond (a && b) came (last_word l prn k)).bytes
        go true true e g =
            rw (← eqb-true w.prn prn e, ← eqb-true kind k g) (same_bytes s.nav w.bytes (stamp_of w.time) w.prn kind f.size.words f.size.stamps f.bytes place)
        go true false e g = off (elsewhere prn k p true false e g refl)
        go false b e g = off (elsewhere prn k p false b e g refl)

    now_stamp : (prn k : ℕ) → Place prn k → get_or stored.stamps (word_place prn k) 0 ≡ (last_word (x ∷ l) prn k).stamp
    unfolding stored kind
    now_stamp prn k p = rw (is, ok) (go (eqb w.prn prn) (eqb kind k) refl refl)
      where
        off : word_place prn k ≢ word_place w.prn kind → get_or stored.stamps (word_place prn k) 0 ≡ (last_word l prn k).stamp
        off a = other_stamp s.nav w.bytes (stamp_of w.time) w.prn kind f.size.words f.size.stamps f.bytes place prn k p a ∙ v.stamps prn k p

        go : (a b : Bool) → eqb w.prn prn ≡ a → eqb kind k ≡ b → get_or stored.stamps (word_place prn k) 0 ≡ (cond (a && b) came (last_word l prn k)).stamp
        go true true e g =
            rw (← eqb-true w.prn prn e, ← eqb-true kind k g) (same_stamp s.nav w.bytes (stamp_of w.time) w.prn kind f.size.words f.size.stamps f.bytes place)
        go true false e g = off (elsewhere prn k p true false e g refl)
        go false b e g = off (elsewhere prn k p false b e g refl)

  -- a word of another type is none of types 1 to 5
  unheld_word : held_type kind ≡ false → (prn k : ℕ) → Place prn k → last_word (x ∷ l) prn k ≡ last_word l prn k
  unfolding kind held_type
  unheld_word h prn k p = rw (is, ok) (go (eqb w.prn prn) (eqb kind k) refl)
    where
      go : (a b : Bool) → eqb kind k ≡ b → cond (a && b) came (last_word l prn k) ≡ last_word l prn k
      go false b e = refl
      go true false e = refl
      go true true e =
          let t = eqb-true kind k e in
          no h (both_true (leb 1 kind) (leb kind 5) (le-leb 1 kind (omega (arith, t, p.kind_low))) (le-leb kind 5 (omega (arith, t, p.kind_high))))

  words_now : WordsAre (word_taken s w).nav (x ∷ l)
  unfolding word_taken stored kind
  words_now =
      by_test (λ (s' : State). WordsAre s'.nav (x ∷ l)) (held_type (word_type w.bytes))
      (λ h. record { bytes = now_bytes h; stamps = now_stamp h })
      (λ h. record { bytes = λ prn k p. rw (unheld_word h prn k p) (v.bytes prn k p); stamps = λ prn k p. rw (unheld_word h prn k p) (v.stamps prn k p) })

-- a word's clock is no sub-frame's
word_onward : (clocks : List ℕ) (p stamp : ℕ) → 1 ≤ p → Onward clocks (set clocks (36 + p) stamp)
unfolding last_subframe_of
word_onward clocks p stamp low prn valid =
    let r = prn_range prn valid in
    let h = r.1 in
    rw (get_or-set_other clocks (36 + p) prn stamp 0 (λ z. absurd (omega (arith, z, h, low)))) (le_refl (get_or clocks prn 0))

-- ---- the call

taken_inv : (o : Start) (b s : State) (w : Word) (x : Entry) (l : Log) → Inv o b s l → x.call ≡ word w → x.reply.code ≡ 0 → Fit s w → word_taken s w ≡ state_at b (x ∷ l) → Inv o b (word_taken s w) (x ∷ l)
unfolding word_taken
taken_inv o b s w x l v is ok f at =
    let words : WordsAre (word_taken s w).nav (x ∷ l) = words_now s w x l is ok f v.words in
    by_test (λ (s' : State). s' ≡ state_at b (x ∷ l) → WordsAre s'.nav (x ∷ l) → Inv o b s' (x ∷ l)) (held_type (word_type w.bytes))
    (λ _ at words. same_inv o b s _ x l v (rw (is, ok) refl) at refl refl refl refl refl refl v.offer words (word_onward s.clocks w.prn (stamp_of w.time) f.prn_low))
    (λ _ at words. same_inv o b s s x l v (rw (is, ok) refl) at refl refl refl refl refl refl v.offer words (still s.clocks))
    at words

taken-state : (s : State) (w : Word) → (step s (word w)).reply.code ≡ 0 → (step s (word w)).state ≡ word_taken s w
unfolding step word_call
taken-state s w h = unless_accepted (first_refusal (word_checks s w)) (word_taken s w) s h

word_inv : (o : Start) (b s : State) (l : Log) (w : Word) → Inv o b s l → Inv o b (step s (word w)).state (entry s (word w) ∷ l)
unfolding step
word_inv o b s l w v =
    ⊎_elim
    (λ e.
    let k = taken-state s w e in
    rw k (taken_inv o b s w (entry s (word w)) l v refl e (fit s w e) (sym k ∙ stepped_at b s l (word w) v.at)))
    (λ p. refused_inv o b s l (word w) p.0 v p.1 (word_kept s w (not-zero _ p.0 p.1)))
    (answered (step s (word w)).reply.code)

pub word_call_lem : (o : Start) (b s : State) (l : Log) (w : Word) → Inv o b s l → Fair o b (entry s (word w)) l × Inv o b (step s (word w)).state (entry s (word w) ∷ l)
unfolding step
word_call_lem o b s l w v = (plain_fair o b (entry s (word w)) l refl refl, word_inv o b s l w v)
