-- Lengths and elements of states, and how many words and rounds a key has.
-- Assumes nothing.
use mathlib.Core.Path.{◌≡◌, refl, ◌∙◌}
use mathlib.Core.Bool.{Bool, true, false, cond}
use mathlib.Core.List.{List, [], ◌∷◌}
use Prim.Native.Nat.{ℕ, zero, suc, ◌+◌, ◌*◌, ◌≤◌, ◌<◌}
use native.Mathlib.Omega.{arith}
use borrow.Author.Tests.{ltb-false}
use lib.Bits.{bit_xor}
use lib.Dec.{ltb}
use lib.ListN.{length, get_or}
use Rattle.laws.specs.Lists.{part}
use Rattle.laws.proofs.Splice.{length_part}
use Rattle.aes.specs.Aes as S

-- ---- lists of bytes

pub length-xored : (a b : List ℕ) → length a ≤ length b → length (S.xored a b) ≡ length a
unfolding S.xored
length-xored [] b h = refl
length-xored (x ∷ xs) [] h = absurd (omega arith)
length-xored (x ∷ xs) (y ∷ ys) h =
    let e = length-xored xs ys (omega arith) in
    omega arith

pub get_or-xored : (a b : List ℕ) (i : ℕ) → length a ≤ length b → i < length a → get_or (S.xored a b) i 0 ≡ bit_xor (get_or a i 0) (get_or b i 0)
unfolding S.xored
get_or-xored [] b i h k = absurd (omega arith)
get_or-xored (x ∷ xs) [] i h k = absurd (omega arith)
get_or-xored (x ∷ xs) (y ∷ ys) zero h k = refl
get_or-xored (x ∷ xs) (y ∷ ys) (suc i) h k = get_or-xored xs ys i (omega arith) (omega arith)

-- ---- the round key of round n, added

pub length-add_round_key : (s w : List ℕ) (n : ℕ) → length s ≡ 16 → 16 * n + 16 ≤ length w → length (S.add_round_key s w n) ≡ 16
unfolding S.add_round_key
length-add_round_key s w n e h =
    let l = length_part w (16 * n) 16 h in
    length-xored s (part w (16 * n) 16) (omega arith) ∙ e

-- ---- a block's length

pub length-cipher : (n : ℕ) (w b : List ℕ) → 16 * n + 16 ≤ length w → length (S.cipher n w b) ≡ 16
unfolding S.cipher S.shift_rows
length-cipher n w b h = length-add_round_key _ w n refl h

-- ---- Nk and Nr

nk_cases : (n : ℕ) (a b : Bool) → ltb n 24 ≡ a → ltb n 32 ≡ b → (k : ℕ) → k ≡ cond a 4 (cond b 6 8)
    → (4 ≤ k) × ((k ≤ 8) × ((16 ≤ n → 4 * k ≤ n) × (n < 16 → k ≡ 4)))
nk_cases n true b p q k e = (omega arith, (omega arith, (λ h. omega arith, λ h. e)))
nk_cases n false true p q k e =
    let f = ltb-false n 24 p in
    (omega arith, (omega arith, (λ h. omega arith, λ h. omega arith)))
nk_cases n false false p q k e =
    let f = ltb-false n 32 q in
    (omega arith, (omega arith, (λ h. omega arith, λ h. omega arith)))

-- 4 to 8 words, of bytes that the key has, where it has 16
pub nk_range : (n : ℕ) → (4 ≤ S.nk_of n) × ((S.nk_of n ≤ 8) × ((16 ≤ n → 4 * S.nk_of n ≤ n) × (n < 16 → S.nk_of n ≡ 4)))
unfolding S.nk_of
nk_range n = nk_cases n (ltb n 24) (ltb n 32) refl refl (S.nk_of n) refl

pub rounds_range : (n : ℕ) → (1 ≤ S.rounds_of n) × (S.rounds_of n ≤ 14)
unfolding S.rounds_of
rounds_range n =
    let r = nk_range n in
    (omega arith, omega arith)
