-- What a verdict changes, by its cases: the tags that stay, the root held, status 3, and the numbers.
-- Assumes nothing.
use mathlib.Core.Path.{◌≡◌, refl, sym, ap}
use mathlib.Core.Bool.{Bool, true, false, cond, not, ◌&&◌}
use mathlib.Core.List.{List, [], ◌∷◌}
use Prim.Native.Nat.{ℕ, zero, suc, ◌*◌, ◌/◌, ◌≤◌, ◌<◌}
use native.Mathlib.Omega.{arith}
use borrow.Author.Tests.{ne_eqb, lt-ltb, le-ltb}
use lib.Dec.{eqb}
use lib.ListN.{length, set}
use Rattle.regions.specs.Told.{told}
use Rattle.laws.specs.Lists.{splice}
use Rattle.laws.specs.Refusal.{first_refusal, neb}
use Rattle.laws.proofs.Splice.{splice_nil}
use Rattle.rules.specs.Bits.{filled, any_of, within}
use Rattle.rules.specs.Calls.{verdict_call, verdict_checks}
use Rattle.rules.specs.Candidates.{candidates_cleared}
use Rattle.rules.specs.Gather.{status_of}
use Rattle.rules.specs.PublicKeys.{without_lower}
use Rattle.rules.specs.Kroot.{kroot_of, root_seconds_of}
use Rattle.rules.specs.State.{State, Tesla, Auth, verdict_shaped, stopped, with_auth, waiting_count, entry_length}
use Rattle.rules.specs.State.{config_length, pubkeys_length, offer_length, chain_length, numbers_length, heldkey_length, waiting_length, arrivals_length}
use Rattle.rules.specs.contracts.RefusalPartialEq.TheImpl.{eq-value as refusal_eq}
use Rattle.rules.specs.declared.Refusal.{Refusal}
use Rattle.rules.specs.declared.Refusal.TheVariants.{NotWaiting}
use Rattle.rules.specs.Refusals.{answer_number, refusal_number}
use Rattle.std.proofs.Common.{Result, Err}
use Rattle.std.specs.Result.{result_eq}
use Rattle.std.specs.contracts.prelude.UnitPartialEq.TheImpl.{eq-value as unit_eq}
use Rattle.rules.proofs.Lengths.{verdict_shaped_lem}
use Rattle.rules.specs.Verdict as S
use Rattle.regions.specs.Tesla.{tesla}

-- ---- tags and candidates at a new root

module _ (s : State) (c : List ℕ) where
  pub new_chain : S.chain_stays s c ≡ false → S.staying_at s c ≡ []
  unfolding S.staying_at
  new_chain f = rw f

  pub same_chain : S.chain_stays s c ≡ true → S.staying_at s c ≡ S.staying (root_seconds_of c) s.tesla.waiting (waiting_count s.tesla.numbers)
  unfolding S.staying_at
  same_chain f = rw f

  pub candidates_stay : S.chain_stays s c ≡ true → s.auth ≡ S.candidates_at s c
  unfolding S.candidates_at
  candidates_stay f = rw f

  pub candidates_go : S.chain_stays s c ≡ false → candidates_cleared s.auth ≡ S.candidates_at s c
  unfolding S.candidates_at
  candidates_go f = rw f

-- no tag stays: the region is as it was
pub none_stay : (waiting stay : List ℕ) → stay ≡ [] → (waiting ≡ splice waiting 0 stay) × (length stay ≡ 0 * entry_length)
none_stay waiting stay e = rw e (sym (splice_nil waiting 0), refl)

pub some_stay : (waiting out stay : List ℕ) (r : ℕ) (kept : List ℕ) → stay ≡ kept → out ≡ splice waiting 0 kept → length kept ≡ r * entry_length
    → (out ≡ splice waiting 0 stay) × (length stay ≡ r * entry_length)
some_stay waiting out stay r kept e a b = rw e (a, b)

-- ---- the root held

pub root_held_lem : (s : State) (c numbers heldkey waiting numbers' heldkey' waiting' : List ℕ) (n : ℕ) → s.tesla ≡ tesla numbers heldkey waiting
    → numbers' ≡ 0 ∷ n ∷ [] → heldkey' ≡ filled 32 (kroot_of c) → waiting' ≡ splice waiting 0 (S.staying_at s c) → length (S.staying_at s c) ≡ n * entry_length
    → tesla numbers' heldkey' waiting' ≡ S.root_held s c
unfolding S.root_held
root_held_lem s c numbers heldkey waiting numbers' heldkey' waiting' n t a b d l =
    let q : n ≡ length (S.staying_at s c) / entry_length = omega arith in
    let w : s.tesla.waiting ≡ waiting = ap (λ (x : Tesla). x.waiting) t in
    rw (a, b, d, q, ← w)

-- ---- answered 0

module _ (s : State) (v : S.Verdict) (pubkeys chain : List ℕ) (ts : Tesla) (k : s.pubkeys ≡ pubkeys) (e : s.chain ≡ chain) (t : s.tesla ≡ ts) where
  pub dropped : (auth' : Auth) → status_of (S.message_header v.message) ≡ 3 → auth' ≡ candidates_cleared s.auth
      → with_auth (S.trusting s pubkeys (set chain 0 2) (tesla (set ts.numbers 1 0) ts.key ts.waiting)) auth' ≡ S.vouched s v
  unfolding S.vouched S.tags_dropped
  dropped auth' h a = rw (h, a, k, e, t)

  pub renewed : (pubkeys' chain' : List ℕ) (ts' : Tesla) (auth' : Auth) → (status_of (S.message_header v.message) ≡ 3 → ⊥) → pubkeys' ≡ without_lower pubkeys v.id
      → chain' ≡ cond (S.same_contents s (S.message_contents v.message)) s.chain (S.forced (S.message_contents v.message))
      → ts' ≡ cond (S.same_contents s (S.message_contents v.message)) s.tesla (S.root_held s (S.message_contents v.message))
      → auth' ≡ cond (S.same_contents s (S.message_contents v.message)) s.auth (S.candidates_at s (S.message_contents v.message))
      → with_auth (S.trusting s pubkeys' chain' ts') auth' ≡ S.vouched s v
  unfolding S.vouched
  renewed pubkeys' chain' ts' auth' h a b d f = rw (ne_eqb (status_of (S.message_header v.message)) 3 h, a, b, d, f, ← k) (go (S.same_contents s (S.message_contents v.message)))
    where
      go : (same : Bool)
          → with_auth (S.trusting s (without_lower s.pubkeys v.id) (cond same s.chain (S.forced (S.message_contents v.message))) (cond same s.tesla (S.root_held s (S.message_contents v.message))))
          (cond same s.auth (S.candidates_at s (S.message_contents v.message)))
          ≡ cond same (S.trusting s (without_lower s.pubkeys v.id) s.chain s.tesla)
          (with_auth (S.trusting s (without_lower s.pubkeys v.id) (S.forced (S.message_contents v.message)) (S.root_held s (S.message_contents v.message))) (S.candidates_at s (S.message_contents v.message)))
      go true = refl
      go false = refl

-- ---- a verdict against what waits

-- equal to the refusal of a verdict that nothing waits for: 14
pub none_waits : (r : Result (Unit {0}) Refusal) → result_eq unit_eq.it refusal_eq.it r (Err NotWaiting) ≡ true → answer_number r ≡ 14
none_waits r e = grind arith

-- another refusal is neither 0 nor 14
pub another : (r : Refusal) → refusal_eq.it r NotWaiting ≡ false → (refusal_number r ≡ 0 → ⊥) × (refusal_number r ≡ 14 → ⊥)
another r e = grind arith

pub kept : (s : State) (v : S.Verdict) → s ≡ S.judged_verdict s v 14
unfolding S.judged_verdict
kept s v = refl

pub wait_ended : (s : State) (v : S.Verdict) (code : ℕ) → (code ≡ 0 → ⊥) → (code ≡ 14 → ⊥) → S.trusting s s.pubkeys s.chain s.tesla ≡ S.judged_verdict s v code
unfolding S.judged_verdict
wait_ended s v zero z f = absurd (z refl)
wait_ended s v (suc n) z f = rw (ne_eqb (suc n) 14 f)

pub taken : (s : State) (v : S.Verdict) → S.vouched s v ≡ S.judged_verdict s v 0
unfolding S.judged_verdict
taken s v = refl

-- ---- the whole call

-- 14, 15, 11, 9 and 0 are not 1, 2 or 4
other_number : (A : Type 0) (a b c d : Bool) (s : A) (f : ℕ → A)
    → let n : ℕ = cond a 14 (cond b 15 (cond c 11 (cond d 9 0))) in cond (any_of (eqb n 1 ∷ eqb n 2 ∷ eqb n 4 ∷ [])) s (f n) ≡ f n
other_number A true b c d s f = refl
other_number A false true c d s f = refl
other_number A false false true d s f = refl
other_number A false false false true s f = refl
other_number A false false false false s f = refl

-- right lengths are those that row 1 asks for
pub fits : (s : State) (v : S.Verdict)
    → (((length s.config ≡ config_length) × (length s.pubkeys ≡ pubkeys_length)) × ((length s.offer ≡ offer_length) × (length s.chain ≡ chain_length)))
    × (((length s.tesla.numbers ≡ numbers_length) × (length s.tesla.key ≡ heldkey_length))
    × ((length s.tesla.waiting ≡ waiting_length) × ((length v.message ≡ 45) × (length v.signature ≡ 132))))
    → length s.auth.arrivals ≡ arrivals_length
    → (verdict_shaped s && (eqb (length v.message) 45 && eqb (length v.signature) 132)) ≡ true
fits s v l a =
    rw (
      verdict_shaped_lem s
          (record { config = l.0.0.0; pubkeys = l.0.0.1; offer = l.0.1.0; chain = l.0.1.1; numbers = l.1.0.0; heldkey = l.1.0.1; waiting = l.1.1.0; arrivals = a }),
      l.1.1.1.0,
      l.1.1.1.1,
    )

module _ (s : State) (v : S.Verdict) (l : verdict_shaped s && (eqb (length v.message) 45 && eqb (length v.signature) 132) ≡ true) where
  pub not_a_verdict : 1 < v.good → told 2 s ≡ verdict_call s v
  unfolding verdict_call verdict_checks
  not_a_verdict h = rw (l, lt-ltb 1 v.good h)

  pub not_an_id : v.good ≤ 1 → 15 < v.id → told 2 s ≡ verdict_call s v
  unfolding verdict_call verdict_checks
  not_an_id g h = rw (l, le-ltb 1 v.good g, lt-ltb 15 v.id h)

  module _ (g : v.good ≤ 1) (i : v.id ≤ 15) where
    pub is_stopped : stopped s.config ≡ true → told 4 s ≡ verdict_call s v
    unfolding verdict_call verdict_checks
    is_stopped h = rw (l, le-ltb 1 v.good g, le-ltb 15 v.id i, h)

    pub judged : (r : ℕ) (s' : State) → stopped s.config ≡ false → r ≡ first_refusal (S.vouch_checks s v) → s' ≡ S.judged_verdict s v r → told r s' ≡ verdict_call s v
    unfolding verdict_call verdict_checks S.vouch_checks
    judged r s' h e f =
        rw (f, e, l, le-ltb 1 v.good g, le-ltb 15 v.id i, h)
        (ap (λ (x : State). told (first_refusal (S.vouch_checks s v)) x)
        (sym
        (other_number State (not (S.names_offer s.offer v)) (neb v.good 1) (S.status_unfit s (S.message_header v.message) (S.message_contents v.message))
        (within 1 2 (status_of (S.message_header v.message)) && S.root_unfit s (S.message_contents v.message))
        s
        (λ (n : ℕ). S.judged_verdict s v n))))
