-- The list of f 0, f 1, .. f (n - 1): its length, and its entries.
-- Assumes nothing.
use mathlib.Core.Path.{◌≡◌, refl, ap₂, ◌∙◌}
use mathlib.Core.List.{List, [], ◌∷◌, ◌++◌}
use mathlib.Core.Logic.{⊎_elim}
use Prim.Native.Nat.{ℕ, zero, suc, ◌-◌, ◌<◌}
use native.Mathlib.Omega.{arith}
use lib.ListN.{length, get_or, length-append, get_or-append}
use Rattle.laws.proofs.Fill.{get_d_past}
use Rattle.laws.proofs.Splice.{below?}
use Rattle.sha3.specs.Sha3 as S

pub length-up_to : (n : ℕ) (f : ℕ → ℕ) → length (S.up_to n f) ≡ n
unfolding S.up_to
length-up_to zero f = refl
length-up_to (suc n) f = simp length-append (omega (arith, length-up_to n f))

pub get_or-up_to : (n : ℕ) (f : ℕ → ℕ) (i : ℕ) → i < n → get_or (S.up_to n f) i 0 ≡ f i
unfolding S.up_to
get_or-up_to zero f i h = absurd (omega arith)
get_or-up_to (suc n) f i h =
    let l = length-up_to n f in
    ⊎_elim
    (λ d. get_or-append (S.up_to n f) (f n ∷ []) 0 i (omega arith) ∙ get_or-up_to n f i d)
    (λ d.
    let e : i - length (S.up_to n f) ≡ 0 = omega arith in
    let k : i ≡ n = omega arith in
    get_d_past (S.up_to n f) (f n ∷ []) i (omega arith) ∙ rw (e, k))
    (below? i n)

pub same-up_to : (n : ℕ) (f g : ℕ → ℕ) → ((i : ℕ) → i < n → f i ≡ g i) → S.up_to n f ≡ S.up_to n g
unfolding S.up_to
same-up_to zero f g e = refl
same-up_to (suc n) f g e = ap₂ (λ (l : List ℕ) (x : ℕ). l ++ (x ∷ [])) (same-up_to n f g (λ i h. e i (omega arith))) (e n (omega arith))
