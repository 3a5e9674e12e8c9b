-- An accepted start: what it leaves has no history but the start itself, and does not depend on what the regions held before. A refused start
-- changes nothing.
use Prim.Native.Nat.{ℕ, suc, ◌+◌, ◌-◌, ◌*◌, ◌^◌, ◌≤◌, ◌<◌}
use mathlib.Core.Path.{◌≡◌, refl, sym, ◌∙◌, ap}
use mathlib.Core.Logic.{◌≢◌, ⊎_elim}
use mathlib.Core.Bool.{true, false, not}
use mathlib.Core.List.{List, [], ◌∷◌, ◌++◌}
use native.Mathlib.Nat.{zero-div}
use native.Mathlib.Omega.{arith}
use lib.Dec.{eqb, ltb}
use lib.ListN.{length, get_or, take, replicate, length-take, length-replicate}
use borrow.Author.Tests.{ltb-false, eqb-true, eqb-false, not-false}
use Rattle.laws.specs.Lists.{part}
use Rattle.laws.specs.Refusal.{first_refusal}
use Rattle.laws.proofs.Refusal.{clear, unless_accepted}
use Rattle.laws.proofs.Splice.{part_first, part_second, either}
use Rattle.laws.proofs.Tests.{and_left, and_right, neither}
use Rattle.rules.specs.Bits.{filled, within}
use Rattle.rules.specs.Calls.{Start, start_call, start_checks, start_unfit, start_lengths, fresh}
use Rattle.rules.specs.Candidates.{pair_at}
use Rattle.rules.specs.Claim.{Fair, KeyKnown, given}
use Rattle.rules.specs.Gather.{marked, complete}
use Rattle.rules.specs.Kroot.{no_offer, offer_waits, in_force}
use Rattle.rules.specs.Log.{Log, start, state_at, step}
use Rattle.rules.specs.Navdata.{word_at, word_place}
use Rattle.rules.specs.PublicKeys.{key_length, key_held, key_type, key_bytes, with_key}
use Rattle.rules.specs.State.{State, ns_of, tree_root, shaped, words_length, stamps_length, dsm_ids, pubkeys_length, arrivals_length, waiting_count, clocks_length, waiting_length, satellites}
use Rattle.rules.proofs.Choices.{no, not-zero}
use Rattle.rules.proofs.Invariant.{Inv, WordsAre, BlocksAre, Unfinished, KeysAre, NamesAre, Newer, SetsAre, heldkey}
use Rattle.rules.proofs.KeyPlaces.{key_number, added_number, added_bytes, other_number}
use Rattle.rules.proofs.Later.{entry, refused_inv}
use Rattle.rules.proofs.Marks.{none_marked}
use Rattle.rules.proofs.Names.{no_names}
use Rattle.rules.proofs.Parts.{get_or-zeros, part-zeros, part_whole}
use Rattle.rules.proofs.ReadsFair.{plain_fair}
use Rattle.rules.proofs.Refused.{start-kept}

-- ---- what the checks of an accepted start say

record Fit (x : Start) : Type 0 where
  ns_in : within 1 36 x.ns ≡ true
  id : x.id < 16
  marks : length x.marks ≡ 28
  root : length x.root ≡ 32
  key : length x.key ≡ 67

fit : (s : State) (x : Start) → (start_call s x).code ≡ 0 → Fit x
unfolding start_call start_checks start_unfit start_lengths
fit s x h =
    let c = clear (start_checks s x) tt h in
    let l = and_right (shaped s) (start_lengths x) (not-false _ c.0) in
    let r = and_right (eqb (length x.marks) 28) _ l in
    let u = neither (not (within 1 36 x.ns)) _ c.1.0 in
    let i = neither (ltb 15 x.id) _ u.1 in
    let id = ltb-false 15 x.id i.0 in
    record {
      ns_in = not-false _ u.0;
      id = omega arith;
      marks = eqb-true (length x.marks) 28 (and_left (eqb (length x.marks) 28) _ l);
      root = eqb-true (length x.root) 32 (and_left (eqb (length x.root) 32) _ r);
      key = eqb-true (length x.key) 67 (and_right (eqb (length x.root) 32) _ r);
    }

-- ---- the parts of what it leaves

fresh_ns : (x : Start) → Fit x → ns_of (fresh x).config ≡ x.ns
unfolding fresh ns_of
fresh_ns x f = rw f.ns_in

fresh_root : (x : Start) → Fit x → tree_root (fresh x).config ≡ x.root
unfolding fresh tree_root
fresh_root x f =
    let e = f.marks in
    let r = f.root in
    part_second (x.ns ∷ x.maclt ∷ x.marks) (x.root ++ (0 ∷ [])) 30 32 (omega arith)
    ∙ ap (λ (k : ℕ). part (x.root ++ (0 ∷ [])) (30 - k) 32) (ap (λ (k : ℕ). suc (suc k)) e)
    ∙ part_first x.root (0 ∷ []) 0 32 (omega arith)
    ∙ part_whole x.root 32 r

fresh-words : (x : Start) → WordsAre (fresh x).nav []
unfolding fresh word_at word_place
fresh-words x =
    record {
      bytes = λ prn kind p. (
          let a = p.prn_low in
          let b = p.prn_high in
          let c = p.kind_low in
          let d = p.kind_high in
          part-zeros words_length (((prn - 1) * 5 + (kind - 1)) * 16) 16 (omega arith)
          );
      stamps = λ prn kind p. get_or-zeros stamps_length ((prn - 1) * 5 + (kind - 1));
    }

unmarked : (id k : ℕ) → marked (get_or (replicate dsm_ids 0) id 0) k ≡ false
unmarked id k = rw (get_or-zeros dsm_ids id) (none_marked k)

fresh-blocks : (x : Start) → BlocksAre (fresh x).store []
unfolding fresh
fresh-blocks x = record { came = λ id k h i m. no (unmarked id k) m; low = λ id h m. no (unmarked id 0) m }

fresh_unfinished : (x : Start) → Unfinished (fresh x).store
unfolding fresh complete
fresh_unfinished x = record { sixteen = λ id h. rw (get_or-zeros dsm_ids id) (zero-div (2 ^ 16)); incomplete = λ id h. rw (unmarked id 0) refl }

key_short : (x : Start) → Fit x → length (take (key_length x.type) x.key) ≤ 67
key_short x f =
    let e = f.key in
    simp length-take (omega arith)

given_key : (x : Start) (keys : List ℕ) (id : ℕ) → id ≡ x.id → key_number keys id ≡ x.type + 1 → key_bytes keys id ≡ filled 67 (take (key_length x.type) x.key) → KeyKnown x (heldkey keys id) []
unfolding key_type
given_key x keys id e n b =
    let z : x.type + 1 - 1 ≡ x.type = omega arith in
    given (rw (b, n, z, e) refl)

fresh_keys : (x : Start) → Fit x → KeysAre x (fresh x).pubkeys []
unfolding fresh key_held
fresh_keys x f =
    record {
      known = λ id h m.
          ⊎_elim
          (λ t. (
          let e = eqb-true id x.id t in
          given_key x _ id e
          (rw e (added_number none x.id x.type key none_length f.id (key_short x f)))
          (rw e (added_bytes none x.id x.type key none_length f.id (key_short x f)))
          ))
          (λ t. no (none_held id h (eqb-false id x.id t)) m)
          (either (eqb id x.id));
    }
  where
    none : List ℕ
    none = replicate pubkeys_length 0

    none_length : length none ≡ pubkeys_length
    none_length = length-replicate {A = ℕ} pubkeys_length 0

    key : List ℕ
    key = take (key_length x.type) x.key

    none_held : (id : ℕ) → id < 16 → id ≢ x.id → key_held (with_key none x.id x.type key) id ≡ false
    none_held id h n = rw (other_number none x.id x.type key none_length f.id (key_short x f) id h n) (rw (get_or-zeros pubkeys_length (id * 68)) refl)

fresh_sets : (x : Start) (b : State) → SetsAre x b (fresh x).auth [] []
unfolding fresh pair_at
fresh_sets x b =
    record {
      backed = λ prn p. (
          let none = get_or-zeros arrivals_length (satellites + (prn - 1)) in
          record { set = λ n. absurd (n (get_or-zeros arrivals_length (prn - 1))); candidate = λ n. absurd (n none); short = λ n. absurd (n none) }
          );
    }

fresh-names : (x : Start) → NamesAre (Newer (fresh x).clocks) (fresh x).tesla.waiting (waiting_count (fresh x).tesla.numbers) []
unfolding fresh waiting_count
fresh-names x = no_names (Newer (replicate clocks_length 0)) (replicate waiting_length 0) 0 [] refl (λ n u. tt)

no_offer_lem : (x : Start) → offer_waits (fresh x).offer ≡ false
unfolding fresh no_offer offer_waits
no_offer_lem x = refl

no_chain : (x : Start) (config : List ℕ) → in_force config (fresh x).chain ≡ false
unfolding fresh in_force
no_chain x config = refl

fresh_inv : (x : Start) → Fit x → Inv x (fresh x) (fresh x) []
unfolding state_at
fresh_inv x f =
    record {
      at = refl;
      ns = fresh_ns x f;
      root = fresh_root x f;
      words = fresh-words x;
      blocks = fresh-blocks x;
      unfinished = fresh_unfinished x;
      pubkeys = fresh_keys x f;
      offer = λ e. no (no_offer_lem x) e;
      force = λ e. no (no_chain x _) e;
      held = λ e. no (no_chain x _) e;
      waiting = λ e. no (no_chain x _) e;
      used = [];
      names = fresh-names x;
      auth = fresh_sets x (fresh x);
    }

-- ---- the call

pub start_left : (s : State) (x : Start) → (start_call s x).code ≡ 0 → (start_call s x).state ≡ fresh x
unfolding start_call
start_left s x h = unless_accepted (first_refusal (start_checks s x)) (fresh x) s h

-- the state that an accepted start leaves, with the empty log
pub start_inv : (s : State) (x : Start) → (start_call s x).code ≡ 0 → Inv x (start_call s x).state (start_call s x).state []
start_inv s x h = rw (start_left s x h) (fresh_inv x (fit s x h))

-- "holding only what it was given"
pub begins : (s s' : State) (x : Start) → (start_call s x).code ≡ 0 → (start_call s' x).code ≡ 0 → (start_call s x).state ≡ (start_call s' x).state
begins s s' x h k = start_left s x h ∙ sym (start_left s' x k)

pub start_refused : (o : Start) (b s : State) (l : Log) (x : Start) (n : ℕ) → Inv o b s l → (step s (start x)).reply.code ≡ suc n
    → Fair o b (entry s (start x)) l × Inv o b (step s (start x)).state (entry s (start x) ∷ l)
unfolding step
start_refused o b s l x n v e = (plain_fair o b (entry s (start x)) l refl refl, refused_inv o b s l (start x) n v e (start-kept s x (not-zero _ n e)))
