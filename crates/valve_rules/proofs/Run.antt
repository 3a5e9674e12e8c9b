-- The claim over any run.
-- Assumes nothing.
use mathlib.Core.Path.{◌≡◌, refl, sym, ap, ap₂, ◌∙◌}
use mathlib.Core.Bool.{Bool, true, false, cond, not, ◌&&◌, ◌||◌}
use mathlib.Core.List.{List, [], ◌∷◌}
use Prim.Native.Nat.{ℕ, ◌<◌}
use native.Mathlib.Nat.{le_refl}
use native.Mathlib.Omega.{arith}
use lib.Dec.{eqb}
use lib.ListN.{length, get_or, set, length-set, get_or-replicate}
use lib.Seq.{get_or-set_same, get_or-set_other}
use Rattle.laws.specs.Refusal.{neb}
use Rattle.laws.proofs.Refusal.{by_test}
use Rattle.valve_rules.specs.Valve.{closed, is_free, next}
use Rattle.valve_rules.specs.Gate.{gate_length, valve_of, valve_at, stop_seen, begun, start_shown, answer_shown, subframe_shown, outer, limit_of, own_met, met_then, decided}
use Rattle.valve_rules.specs.Claim.{Event, started, answered, subframe, decide, gate, stopped, mets_of, Claim}
use Rattle.valve_rules.proofs.Valves.{run, ruled, run_follows, only_one, never_unmet, free_at_third, length_decided_to, not_decided_yet, decided_at}
use Rattle.valve_rules.proofs.Digits.{free_digit_lem, free_small}

-- a stop noted or ended: the valves stay
unfoldable pub marked : List ℕ → Bool → ℕ → List ℕ
marked g b x = cond b (set g 48 x) g

module _ (g : List ℕ) (b : Bool) (x : ℕ) where
  pub length_marked : length (marked g b x) ≡ length g
  unfolding marked
  length_marked = by_test (λ (h : List ℕ). length h ≡ length g) b (λ _. length-set g 48 x) (λ _. refl)

  valve_marked : (k : ℕ) → k < 48 → valve_at (marked g b x) k ≡ valve_at g k
  unfolding marked valve_at
  valve_marked k h =
      by_test (λ (u : List ℕ). valve_of (get_or u k 0) ≡ valve_of (get_or g k 0)) b
      (λ _. ap valve_of (get_or-set_other g 48 k x 0 (λ e. absurd (omega arith))))
      (λ _. refl)

  pub stop_marked : length g ≡ gate_length → stop_seen (marked g b x) ≡ cond b (neb x 0) (stop_seen g)
  unfolding marked stop_seen
  stop_marked l = go b
    where
      go : (t : Bool) → neb (get_or (cond t (set g 48 x) g) 48 0) 0 ≡ cond t (neb x 0) (neb (get_or g 48 0) 0)
      go true = rw (get_or-set_same g 48 x 0 (omega arith))
      go false = refl

gate-length : (es : List Event) → length (gate es) ≡ gate_length
unfolding begun start_shown answer_shown subframe_shown decided marked
gate-length [] = refl
gate-length (started n ∷ es) = length_marked (gate es) (eqb n 0) 0 ∙ gate-length es
gate-length (answered n ∷ es) = length_marked (gate es) (eqb n 4) 1 ∙ gate-length es
gate-length (subframe a b ∷ es) = length_marked (gate es) (eqb a 4 || eqb b 4) 1 ∙ gate-length es
gate-length (decide a b ∷ es) = length_decided_to (met_then (stop_seen (gate es)) a) (met_then (stop_seen (gate es)) b) (gate es) 48 ∙ gate-length es

-- the gate's mark is what the core's answers tell
pub stop_is : (es : List Event) → stop_seen (gate es) ≡ stopped es
unfolding begun start_shown answer_shown subframe_shown decided marked stop_seen
stop_is [] = refl
stop_is (started n ∷ es) = stop_marked (gate es) (eqb n 0) 0 (gate-length es) ∙ ap (λ (b : Bool). cond (eqb n 0) false b) (stop_is es)
stop_is (answered n ∷ es) = stop_marked (gate es) (eqb n 4) 1 (gate-length es) ∙ ap (λ (b : Bool). cond (eqb n 4) true b) (stop_is es)
stop_is (subframe a b ∷ es) =
    stop_marked (gate es) (eqb a 4 || eqb b 4) 1 (gate-length es) ∙ ap (λ (t : Bool). cond (eqb a 4 || eqb b 4) true t) (stop_is es)
stop_is (decide a b ∷ es) =
    ap (λ (v : ℕ). neb v 0) (not_decided_yet (met_then (stop_seen (gate es)) a) (met_then (stop_seen (gate es)) b) (gate es) 48 48 (le_refl 48)) ∙ stop_is es

-- a decision while stopped counts as unmet, whatever the valve's limit
pub own_then : (k : ℕ) (s a b : Bool) → own_met k (met_then s a) (met_then s b) ≡ (not s && own_met k a b)
unfolding own_met met_then
own_then k s a b = go (outer k)
  where
    go : (t : Bool) → cond t (not s && b) (not s && a) ≡ (not s && cond t b a)
    go true = refl
    go false = refl

own_limit : (says : ℕ → Bool) (k : ℕ) → own_met k (says 20) (says 10) ≡ says (limit_of k)
unfolding own_met
own_limit says k = go (outer k)
  where
    go : (t : Bool) → cond t (says 10) (says 20) ≡ says (cond t 10 20)
    go true = refl
    go false = refl

closed_first : (k : ℕ) → k < 48 → valve_at begun k ≡ closed
unfolding begun valve_at valve_of
closed_first k h = ap valve_of (get_or-replicate {A = ℕ} 49 k 0 0 (omega arith))

-- each valve goes by the history of its own limit
valve_is : (k : ℕ) → k < 48 → (es : List Event) → valve_at (gate es) k ≡ run (mets_of k es)
unfolding start_shown answer_shown subframe_shown decided marked
valve_is k h [] = closed_first k h
valve_is k h (started n ∷ es) = valve_marked (gate es) (eqb n 0) 0 k h ∙ valve_is k h es
valve_is k h (answered n ∷ es) = valve_marked (gate es) (eqb n 4) 1 k h ∙ valve_is k h es
valve_is k h (subframe a b ∷ es) = valve_marked (gate es) (eqb a 4 || eqb b 4) 1 k h ∙ valve_is k h es
valve_is k h (decide a b ∷ es) =
    decided_at (met_then (stop_seen (gate es)) a) (met_then (stop_seen (gate es)) b) (gate es) 48 k h (omega (arith, gate-length es))
    ∙ ap₂ next (valve_is k h es) (own_then k (stop_seen (gate es)) a b ∙ ap (λ (s : Bool). not s && own_met k a b) (stop_is es))

stops_all : (k : ℕ) → k < 48 → (es : List Event) (met20 met10 : Bool) → stopped es ≡ true → is_free (valve_at (gate (decide met20 met10 ∷ es)) k) ≡ false
stops_all k h es a b e =
    ap is_free (valve_is k h (decide a b ∷ es)) ∙ ap (λ (s : Bool). is_free (next (run (mets_of k es)) (not s && own_met k a b))) e ∙ never_unmet (run (mets_of k es))

same_mets : (j k : ℕ) → outer j ≡ outer k → (es : List Event) → mets_of j es ≡ mets_of k es
unfolding own_met
same_mets j k e [] = refl
same_mets j k e (started n ∷ es) = same_mets j k e es
same_mets j k e (answered n ∷ es) = same_mets j k e es
same_mets j k e (subframe a b ∷ es) = same_mets j k e es
same_mets j k e (decide a b ∷ es) = ap₂ (λ (t : Bool) (ms : List Bool). (not (stopped es) && cond t b a) ∷ ms) e (same_mets j k e es)

pub gate_claim : Claim
unfolding outer
gate_claim =
    record {
      ruling = ruled;
      follows = run_follows;
      only = only_one;
      rules = λ k h es. ap is_free (valve_is k h es);
      unmet = λ k h es ms e. ap is_free (valve_is k h es ∙ ap run e) ∙ never_unmet (run ms);
      third = λ k h es ms e. ap is_free (valve_is k h es ∙ ap run e) ∙ free_at_third (run ms);
      stops = stops_all;
      alike = λ j k hj hk e es. valve_is j hj es ∙ ap run (same_mets j k e es) ∙ sym (valve_is k hk es);
      limits = refl;
      own = own_limit;
      digits = free_digit_lem;
      no_more = free_small;
      length_kept = gate-length;
    }
