-- The S-box's table follows its field rule, and `inverse` is the inverse: one test that antt computes at each of the 256 bytes.
-- Assumes nothing.
use mathlib.Core.Path.{◌≡◌, refl, ◌∙◌, subst, sym}
use mathlib.Core.Bool.{Bool, true, ◌&&◌}
use mathlib.Core.List.{List, [], ◌∷◌}
use Prim.Native.Nat.{ℕ, zero, suc, ◌+◌, ◌<◌}
use native.Mathlib.Nat.{add-zero, zero-add, add-suc, suc-add, le_of_suc-le-suc, not-suc-le-zero}
use native.Mathlib.Omega.{arith}
use lib.Dec.{T, eqb}
use lib.ListN.{length, get_or}
use borrow.Author.Tests.{eqb-true}
use Rattle.laws.proofs.Tests.{holds, left_of, right_of}
use Rattle.aes.specs.Aes as S

-- ---- a test of every entry of a list and its place, counted from i

abbrev every : (ℕ → ℕ → Bool) → ℕ → List ℕ → Bool
every f i [] = true
every f i (x ∷ xs) = f i x && every f (suc i) xs

from : (f : ℕ → ℕ → Bool) (xs : List ℕ) (i : ℕ) → T (every f i xs) → (k : ℕ) → k < length xs → T (f (i + k) (get_or xs k 0))
from f [] i t k h = absurd (not-suc-le-zero h)
from f (x ∷ xs) i t zero h = subst (λ (m : ℕ). T (f m x)) (sym (add-zero i)) (left_of (f i x) (every f (suc i) xs) t)
from f (x ∷ xs) i t (suc k) h =
    subst (λ (m : ℕ). T (f m (get_or xs k 0))) (suc-add i k ∙ sym (add-suc i k))
    (from f xs (suc i) (right_of (f i x) (every f (suc i) xs) t) k (le_of_suc-le-suc h))

entry : (f : ℕ → ℕ → Bool) (xs : List ℕ) → T (every f 0 xs) → (k : ℕ) → k < length xs → T (f k (get_or xs k 0))
entry f xs t k h = subst (λ (m : ℕ). T (f m (get_or xs k 0))) (zero-add k) (from f xs 0 t k h)

-- ---- the test of the byte b with the inverse v and the table's entry x

unfoldable is_one_test : ℕ → ℕ → Bool
is_one_test zero p = true
is_one_test (suc b) p = eqb p 1

unfoldable right : ℕ → ℕ → Bool
right b x = let v = S.inverse b in eqb x (S.affine v) && is_one_test b (S.times b v)

computed : T (every right 0 S.SBOX)
unfolding right is_one_test S.SBOX S.affine S.affine_bits S.affine_bit S.bit S.inverse S.times S.times_bits S.xtime
computed = tt

size : length S.SBOX ≡ 256
unfolding S.SBOX
size = refl

-- ---- what it says

passed : (b : ℕ) → b < 256 → T (right b (get_or S.SBOX b 0))
passed b h = entry right S.SBOX computed b (omega (arith, size))

-- the table's entry at a byte is the rule's
pub entry_rule : (b : ℕ) → b < 256 → get_or S.SBOX b 0 ≡ S.sub_byte b
unfolding right S.sub_byte
entry_rule b h =
    let x = get_or S.SBOX b 0 in
    let v = S.inverse b in
    eqb-true x (S.affine v) (holds (eqb x (S.affine v)) (left_of (eqb x (S.affine v)) (is_one_test b (S.times b v)) (passed b h)))

is_one : (b p : ℕ) → 0 < b → T (is_one_test b p) → p ≡ 1
unfolding is_one_test
is_one zero p h t = absurd (omega arith)
is_one (suc b) p h t = eqb-true p 1 (holds (eqb p 1) t)

-- 4.4: a byte other than 0 times its inverse is 1
pub inverse_rule : (b : ℕ) → 0 < b → b < 256 → S.times b (S.inverse b) ≡ 1
unfolding right
inverse_rule b g h =
    let x = get_or S.SBOX b 0 in
    let v = S.inverse b in
    is_one b (S.times b v) g (right_of (eqb x (S.affine v)) (is_one_test b (S.times b v)) (passed b h))
