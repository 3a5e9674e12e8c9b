-- One valve over a run, and the 48 valves of one decision.
-- Assumes nothing.
use mathlib.Core.Path.{◌≡◌, refl, sym, ap, ap₂, ◌∙◌}
use mathlib.Core.Bool.{Bool, true, false, cond, not, ◌&&◌, ◌||◌}
use mathlib.Core.List.{List, [], ◌∷◌}
use Prim.Native.Nat.{ℕ, zero, suc, ◌+◌, ◌≤◌, ◌<◌}
use native.Mathlib.Numerals.{add-one}
use native.Mathlib.Omega.{arith}
use lib.Dec.{eqb}
use lib.ListN.{length, get_or, set, length-set}
use lib.Seq.{get_or-set_same, get_or-set_other}
use borrow.Author.Tests.{eqb-true, eqb-false}
use Rattle.valve_rules.specs.Valve.{Valve, free, closed2, closed1, closed, is_free, next}
use Rattle.valve_rules.specs.Gate.{valve_of, number_of, valve_at, own_met, decided_to}
use Rattle.valve_rules.specs.Claim.{rest, closed_at, closed_lately, Follows}

-- ---- one valve

-- after decisions, from its beginning
abbrev pub run : List Bool → Valve
run [] = closed
run (m ∷ ms) = next (run ms) m

abbrev pub ruled : List Bool → Bool
ruled ms = is_free (run ms)

-- it stays closed for two further decisions, or for one
abbrev stays2 : Valve → Bool
stays2 free = false
stays2 closed2 = true
stays2 closed1 = false
stays2 closed = false

abbrev stays1 : Valve → Bool
stays1 free = false
stays1 closed2 = false
stays1 closed1 = true
stays1 closed = false

change : (v : Valve) (m : Bool) → (is_free v && not (is_free (next v m))) ≡ stays2 (next v m)
change free true = refl
change free false = refl
change closed2 m = refl
change closed1 m = refl
change closed true = refl
change closed false = refl

change_then : (v : Valve) (m : Bool) → stays1 (next v m) ≡ stays2 v
change_then free true = refl
change_then free false = refl
change_then closed2 m = refl
change_then closed1 m = refl
change_then closed true = refl
change_then closed false = refl

frees : (v : Valve) (m : Bool) → is_free (next v m) ≡ cond (stays2 v || stays1 v) false m
frees free true = refl
frees free false = refl
frees closed2 m = refl
frees closed1 m = refl
frees closed true = refl
frees closed false = refl

closed_at_lem : (ms : List Bool) → closed_at ruled ms ≡ stays2 (run ms)
closed_at_lem [] = refl
closed_at_lem (m ∷ ms) = change (run ms) m

closed_before : (ms : List Bool) → closed_at ruled (rest ms) ≡ stays1 (run ms)
closed_before [] = refl
closed_before (m ∷ ms) = closed_at_lem ms ∙ sym (change_then (run ms) m)

goes : (m : Bool) (ms : List Bool) → ruled (m ∷ ms) ≡ cond (closed_lately ruled ms) false m
goes m ms = rw (closed_at_lem ms, closed_before ms) (frees (run ms) m)

pub run_follows : Follows ruled
run_follows = record { begins = refl; goes_on = goes }

-- two that follow the rule agree: after no decisions, and then by the changes to closed of the last two
record Agree (f h : List Bool → Bool) (ms : List Bool) : Type 0 where
  now_is : f ms ≡ h ms
  last_is : closed_at f ms ≡ closed_at h ms
  before_is : closed_at f (rest ms) ≡ closed_at h (rest ms)

agree : (f h : List Bool → Bool) → Follows f → Follows h → (ms : List Bool) → Agree f h ms
agree f h p q [] = record { now_is = p.begins ∙ sym q.begins; last_is = refl; before_is = refl }
agree f h p q (m ∷ ms) =
    let a = agree f h p q ms in
    let e : f (m ∷ ms) ≡ h (m ∷ ms) = p.goes_on m ms ∙ (rw (a.last_is, a.before_is) refl) ∙ sym (q.goes_on m ms) in
    record { now_is = e; last_is = ap₂ (λ (x y : Bool). x && not y) a.now_is e; before_is = a.last_is }

pub only_one : (f h : List Bool → Bool) → Follows f → Follows h → (ms : List Bool) → f ms ≡ h ms
only_one f h p q ms = (agree f h p q ms).now_is

pub never_unmet : (v : Valve) → is_free (next v false) ≡ false
never_unmet free = refl
never_unmet closed2 = refl
never_unmet closed1 = refl
never_unmet closed = refl

pub free_at_third : (v : Valve) → is_free (next (next (next v true) true) true) ≡ true
free_at_third free = refl
free_at_third closed2 = refl
free_at_third closed1 = refl
free_at_third closed = refl

-- ---- the 48 of one decision

pub read_back : (v : Valve) → valve_of (number_of v) ≡ v
unfolding valve_of
read_back free = refl
read_back closed2 = refl
read_back closed1 = refl
read_back closed = refl

module _ (met20 met10 : Bool) (g : List ℕ) where
  pub length_decided_to : (n : ℕ) → length (decided_to met20 met10 g n) ≡ length g
  unfolding decided_to
  length_decided_to zero = refl
  length_decided_to (suc n) = length-set (decided_to met20 met10 g n) n (number_of (next (valve_at (decided_to met20 met10 g n) n) (own_met n met20 met10))) ∙ length_decided_to n

  -- those that did not decide yet
  pub not_decided_yet : (n k : ℕ) → n ≤ k → get_or (decided_to met20 met10 g n) k 0 ≡ get_or g k 0
  unfolding decided_to
  not_decided_yet zero k h = refl
  not_decided_yet (suc n) k h =
      get_or-set_other (decided_to met20 met10 g n) n k (number_of (next (valve_at (decided_to met20 met10 g n) n) (own_met n met20 met10))) 0 (λ e. absurd (omega arith))
      ∙ not_decided_yet n k (omega arith)

  -- one valve more
  pub one_decided : (n v : ℕ) → v ≡ number_of (next (valve_of (get_or (decided_to met20 met10 g n) n 0)) (own_met n met20 met10))
      → set (decided_to met20 met10 g n) n v ≡ decided_to met20 met10 g (n + 1)
  unfolding decided_to valve_at
  one_decided n v e = rw (e, add-one n)

  last_decided : (n : ℕ) → n < length g → valve_at (decided_to met20 met10 g (suc n)) n ≡ next (valve_at g n) (own_met n met20 met10)
  unfolding decided_to valve_at
  last_decided n h =
      rw (
        get_or-set_same (decided_to met20 met10 g n) n (number_of (next (valve_of (get_or (decided_to met20 met10 g n) n 0)) (own_met n met20 met10))) 0 (rw (length_decided_to n) h),
        read_back (next (valve_of (get_or (decided_to met20 met10 g n) n 0)) (own_met n met20 met10)),
        not_decided_yet n n (omega arith),
      )

  pub decided_at : (n k : ℕ) → k < n → n ≤ length g → valve_at (decided_to met20 met10 g n) k ≡ next (valve_at g k) (own_met k met20 met10)
  unfolding decided_to valve_at
  decided_at zero k h l = absurd (omega arith)
  decided_at (suc n) k h l = go (eqb k n) refl (λ u. decided_at n k u (omega arith))
    where
      go : (t : Bool) → eqb k n ≡ t → (k < n → valve_at (decided_to met20 met10 g n) k ≡ next (valve_at g k) (own_met k met20 met10))
          → valve_at (decided_to met20 met10 g (suc n)) k ≡ next (valve_at g k) (own_met k met20 met10)
      go true e r = rw (eqb-true k n e) (last_decided n (omega arith))
      go false e r =
          ap valve_of (get_or-set_other (decided_to met20 met10 g n) n k (number_of (next (valve_at (decided_to met20 met10 g n) n) (own_met n met20 met10))) 0 (eqb-false k n e))
          ∙ r (omega (arith, eqb-false k n e))
