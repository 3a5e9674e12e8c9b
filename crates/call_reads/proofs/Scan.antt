-- The count over satellites goes on by one satellite, and never falls: four that are met are met over all 36.
-- Assumes nothing.
use mathlib.Core.Path.{◌≡◌, sym, ◌∙◌}
use mathlib.Core.Bool.{true, false}
use mathlib.Core.List.{List}
use Prim.Native.Nat.{ℕ, ◌+◌, ◌≤◌}
use native.Mathlib.Numerals.{add-one}
use native.Mathlib.Omega.{arith}
use lib.ListN.{get_or}
use borrow.Author.Tests.{lt-leb, ne_eqb}
use Rattle.rules.proofs.Four.{soon, none}
use Rattle.rules.specs.Four.{recent, recent_count, four_met}
use Rattle.rules.specs.State.{State, four_lent, last_subframe}

-- one satellite more, which counts or not
module _ (clock limit : ℕ) (arrivals : List ℕ) (i met : ℕ) (e : met ≡ recent_count clock limit arrivals i) where
  pub counted : true ≡ recent clock limit (get_or arrivals i 0) → met + 1 ≡ recent_count clock limit arrivals (i + 1)
  unfolding recent_count
  counted f = rw (e, add-one i, ← f)

  pub passed : false ≡ recent clock limit (get_or arrivals i 0) → met ≡ recent_count clock limit arrivals (i + 1)
  unfolding recent_count
  passed f = rw (e, add-one i, ← f) (omega arith)

-- the answer, where `clock` is the stamp of the last noted sub-frame
module _ (s : State) (clocks arrivals : List ℕ) (limit clock : ℕ) (is : clock ≡ last_subframe clocks) where
  pub not_noted : clock ≡ 0 → false ≡ four_met (four_lent s clocks arrivals) limit
  not_noted z = rw (none (four_lent s clocks arrivals) limit (sym is ∙ z))

  module _ (z : clock ≡ 0 → ⊥) where
    -- the scan came to its end
    pub too_few : (met : ℕ) → met ≤ 3 → met ≡ recent_count clock limit arrivals 36 → false ≡ four_met (four_lent s clocks arrivals) limit
    unfolding four_met
    too_few met l e = rw (← is, ne_eqb clock 0 z, ← e, lt-leb 4 met (omega arith))

    -- the fourth is met among the first i + 1
    pub enough : (i : ℕ) → i ≤ 35 → 4 ≡ recent_count clock limit arrivals (i + 1) → true ≡ four_met (four_lent s clocks arrivals) limit
    enough i l e =
        let h : 4 ≤ recent_count (last_subframe clocks) limit arrivals (i + 1) = rw (← is) (omega arith) in
        rw (soon (four_lent s clocks arrivals) limit (i + 1) (omega arith) (λ y. z (is ∙ y)) h)
