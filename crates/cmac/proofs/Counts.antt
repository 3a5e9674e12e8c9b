-- The number of blocks of a message, and the number of rounds that a kept key says.
-- Assumes nothing.
use mathlib.Core.Path.{◌≡◌, refl}
use mathlib.Core.Bool.{Bool, true, false, cond}
use Prim.Native.Nat.{ℕ, ◌+◌, ◌-◌, ◌*◌, ◌/◌, ◌≤◌, ◌<◌, min, max}
use native.Mathlib.Omega.{arith}
use Rattle.std.specs.Int.{div_ceil}
use Rattle.std.proofs.lemmas.Bool.Decides.{nat_tests}
use lib.Dec.{eqb}
use borrow.Author.Tests.{eqb-true, eqb-false}
use Rattle.cmac.specs.Cmac as S

-- n blocks hold the bytes, and n - 1 do not hold them all, if there are any
pub record Holds (len n : ℕ) : Type 0 where
  pub some : 1 ≤ n
  pub enough : len ≤ 16 * n
  pub full : 16 * (n - 1) ≤ len
  pub needed : 1 ≤ len → 16 * (n - 1) < len

pub blocks_hold : (len : ℕ) → Holds len (S.blocks len)
unfolding S.blocks
blocks_hold len = go (eqb len 0) refl
  where
    go : (t : Bool) → eqb len 0 ≡ t → Holds len (cond t 1 ((len + 15) / 16))
    go true e =
        let z = eqb-true len 0 e in
        record { some = omega arith; enough = omega arith; full = omega arith; needed = λ h. omega arith }
    go false e =
        let z = eqb-false len 0 e in
        record { some = omega arith; enough = omega arith; full = omega arith; needed = λ h. omega arith }

pub rounded_up : (len : ℕ) → max (div_ceil len 16) 1 ≡ S.blocks len
unfolding S.blocks
rounded_up len = go (eqb len 0) refl
  where
    go : (t : Bool) → eqb len 0 ≡ t → max (div_ceil len 16) 1 ≡ cond t 1 ((len + 15) / 16)
    go true e =
        let z = eqb-true len 0 e in
        omega arith
    go false e =
        let z = eqb-false len 0 e in
        omega arith

-- a byte as a number of rounds
pub clamped : (x : ℕ) → max 1 (min x 14) ≡ S.rounds_in x
unfolding S.rounds_in
clamped x = grind (arith, nat_tests)
