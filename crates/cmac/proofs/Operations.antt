-- Exclusive or, and a shift by a bit: their elements and lengths.
-- Assumes nothing.
use mathlib.Core.Path.{◌≡◌, refl, sym, ap, ◌∙◌}
use mathlib.Core.List.{List, [], ◌∷◌}
use Prim.Native.Nat.{ℕ, zero, suc, ◌*◌, ◌/◌, ◌%◌, ◌<◌}
use native.Mathlib.Omega.{arith}
use lib.Bits.{bit_or, bit_xor, xor_comm, xor_zero_r, or_zero_r}
use lib.ListN.{length, get_or, set, get_or-eq_default}
use Rattle.laws.proofs.Elements.{written_out}
use Rattle.aes.specs.Aes as A
use Rattle.cmac.specs.Cmac as S

pub xored_comm : (a b : List ℕ) → A.xored a b ≡ A.xored b a
unfolding A.xored
xored_comm [] [] = refl
xored_comm [] (y ∷ ys) = refl
xored_comm (x ∷ xs) [] = refl
xored_comm (x ∷ xs) (y ∷ ys) = rw (xor_comm x y, xored_comm xs ys)

pub length-shifted : (x : List ℕ) → length (S.shifted x) ≡ length x
unfolding S.shifted
length-shifted [] = refl
length-shifted (x ∷ xs) = ap suc (length-shifted xs)

pub get_or-shifted : (x : List ℕ) (i : ℕ) → i < length x → get_or (S.shifted x) i 0 ≡ bit_or (get_or x i 0 * 2 % 256) (get_or x (suc i) 0 / 128)
unfolding S.shifted
get_or-shifted [] i h = absurd (omega arith)
get_or-shifted (x ∷ xs) zero h = refl
get_or-shifted (x ∷ xs) (suc i) h = get_or-shifted xs i (omega arith)

-- the last byte
pub get_or-shifted_last : (x : List ℕ) → length x ≡ 16 → get_or (S.shifted x) 15 0 ≡ get_or x 15 0 * 2 % 256
get_or-shifted_last x e =
    get_or-shifted x 15 (omega arith)
    ∙ ap (λ (y : ℕ). bit_or (get_or x 15 0 * 2 % 256) (y / 128)) (get_or-eq_default x 0 {n = 16} (omega arith))
    ∙ or_zero_r (get_or x 15 0 * 2 % 256)

-- R_128 changes the last byte alone
sixteen : (a0 a1 a2 a3 a4 a5 a6 a7 a8 a9 a10 a11 a12 a13 a14 a15 : ℕ) → A.xored (a0 ∷ a1 ∷ a2 ∷ a3 ∷ a4 ∷ a5 ∷ a6 ∷ a7 ∷ a8 ∷ a9 ∷ a10 ∷ a11 ∷ a12 ∷ a13 ∷ a14 ∷ a15 ∷ []) S.R128 ≡ a0 ∷ a1 ∷ a2 ∷ a3 ∷ a4 ∷ a5 ∷ a6 ∷ a7 ∷ a8 ∷ a9 ∷ a10 ∷ a11 ∷ a12 ∷ a13 ∷ a14 ∷ bit_xor a15 0x87 ∷ []
unfolding A.xored S.R128
sixteen a0 a1 a2 a3 a4 a5 a6 a7 a8 a9 a10 a11 a12 a13 a14 a15 = simp xor_zero_r

pub xored-R128 : (d : List ℕ) → length d ≡ 16 → A.xored d S.R128 ≡ set d 15 (bit_xor (get_or d 15 0) 0x87)
xored-R128 d e =
    ap (λ (l : List ℕ). A.xored l S.R128) (written_out 16 d e)
    ∙ sixteen _ _ _ _ _ _ _ _ _ _ _ _ _ _ _ _
    ∙ ap (λ (l : List ℕ). set l 15 (bit_xor (get_or d 15 0) 0x87)) (sym (written_out 16 d e))
