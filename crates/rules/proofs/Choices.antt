-- What tests and numbers choose between. Assumes nothing.
use Prim.Native.Nat.{ℕ, zero, suc}
use mathlib.Core.Path.{◌≡◌, refl, sym, ◌∙◌}
use mathlib.Core.Logic.{◌≢◌, ◌⊎◌, inl, inr}
use mathlib.Core.Bool.{Bool, true, false}
use mathlib.Core.List.{List, [], ◌∷◌}
use native.Mathlib.Omega.{arith}
use lib.ListN.{get_or}
use Rattle.laws.specs.Refusal.{unless}
use Rattle.laws.proofs.Tests.{and_left, and_right, true_false}
use Rattle.rules.specs.Bits.{all_of}

-- what holds where nothing was refused and where something was holds of the choice
pub by_number : {A : Type 0} (P : A → Type 0) (n : ℕ) {x y : A} → (n ≡ 0 → P x) → (n ≢ 0 → P y) → P (unless n x y)
by_number P zero f g = f refl
by_number P (suc n) f g = g λ e. absurd (omega (arith, e))

-- 0 or a number
pub answered : (n : ℕ) → (n ≡ 0) ⊎ ((m : ℕ) × (n ≡ suc m))
answered zero = inl refl
answered (suc m) = inr (m, refl)

pub not-zero : (n m : ℕ) → n ≡ suc m → n ≢ 0
not-zero n m e z = omega arith

-- one of tests that all hold
pub each : (bs : List Bool) → all_of bs ≡ true → (i : ℕ) → get_or bs i true ≡ true
each [] h i = refl
each (b ∷ bs) h zero = and_left b (all_of bs) h
each (b ∷ bs) h (suc i) = each bs (and_right b (all_of bs) h) i

-- a test cannot hold and fail
pub no : {A : Type 0} {b : Bool} → b ≡ false → b ≡ true → A
no e f = true_false (sym f ∙ e)
