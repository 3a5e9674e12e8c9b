-- Fields of contents in their bytes and their ranges, tests on contents in groups, what waits as a verdict names it, least blocks.
-- Assumes nothing.
use mathlib.Core.Path.{◌≡◌, refl, sym, ◌∙◌}
use mathlib.Core.Bool.{Bool, true, false, cond}
use mathlib.Core.List.{List, [], ◌∷◌}
use Prim.Native.Nat.{ℕ, ◌+◌, ◌-◌, ◌*◌, ◌/◌, ◌%◌, ◌^◌, ◌≤◌, ◌<◌}
use native.Mathlib.Omega.{arith}
use lib.Dec.{leb}
use lib.ListN.{length, get_or}
use borrow.Author.Tests.{leb-true}
use Rattle.laws.specs.Lists.{part}
use Rattle.laws.proofs.Splice.{length_part, get_d_part}
use Rattle.laws.proofs.Elements.{written_out}
use Rattle.bitfields.proofs.Fields.{bits_split, bits_in_byte, bits_byte}
use Rattle.rules.specs.Bits.{bits}
use Rattle.rules.specs.Kroot as S
use Rattle.rules.proofs.Bounds.{bits_lt}

-- the low bits of a byte
pub low_bits : (s : List ℕ) (k r n : ℕ) → r + n ≡ 8 → bits s (8 * k + r) n ≡ get_or s k 0 % 2 ^ n
low_bits s k r n h =
    let e : 8 - (r + n) ≡ 0 = omega arith in
    let f : get_or s k 0 / 2 ^ 0 ≡ get_or s k 0 = omega arith in
    bits_in_byte s k r n (omega arith) ∙ rw (e, f)

-- twelve bits: the low four of a byte, and the next byte
pub low_and-next : (s : List ℕ) (k : ℕ) → get_or s (k + 1) 0 < 256 → bits s (8 * k + 4) 12 ≡ get_or s k 0 % 16 * 256 + get_or s (k + 1) 0
low_and-next s k h =
    let e : 8 * k + 4 + 4 ≡ 8 * (k + 1) = omega arith in
    bits_split s (8 * k + 4) 4 8 ∙ rw (low_bits s k 4 4 refl, e, bits_byte s (k + 1) h)

pub week_bound : (c : List ℕ) → S.root_week_of c < 4096
unfolding S.root_week_of
week_bound c = bits_lt c 28 12

-- six bytes of a list, one by one
pub six : (c : List ℕ) (a : ℕ) → a + 6 ≤ length c
    → get_or c a 0 ∷ get_or c (a + 1) 0 ∷ get_or c (a + 2) 0 ∷ get_or c (a + 3) 0 ∷ get_or c (a + 4) 0 ∷ get_or c (a + 5) 0 ∷ [] ≡ part c a 6
six c a h =
    let e : a + 0 ≡ a = omega arith in
    sym (written_out 6 (part c a 6) (length_part c a 6 h)
    ∙ rw (get_d_part c a 6 0 (omega arith), get_d_part c a 6 1 (omega arith), get_d_part c a 6 2 (omega arith), get_d_part c a 6 3 (omega arith), get_d_part c a 6 4 (omega arith), get_d_part c a 6 5 (omega arith), e))

-- as many blocks as are the least have room
pub least_fits : (n : ℕ) → n ≤ 13 * S.least_blocks n
unfolding S.least_blocks
least_fits n = go (leb n 91) refl
  where
    go : (b : Bool) → leb n 91 ≡ b → n ≤ 13 * cond b 7 ((n + 12) / 13)
    go true e = omega (arith, leb-true n 91 e)
    go false e = omega arith

pub least_bound : (n : ℕ) → S.least_blocks n ≤ n + 7
unfolding S.least_blocks
least_bound n = go (leb n 91)
  where
    go : (b : Bool) → cond b 7 ((n + 12) / 13) ≤ n + 7
    go true = omega arith
    go false = omega arith
