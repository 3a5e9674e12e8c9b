-- Laws that the checks of the calls share: ranges as tests, and what a refusal's number is not. Assumes nothing.
use mathlib.Core.Path.{◌≡◌}
use mathlib.Core.Bool.{true, false}
use Prim.Native.Nat.{ℕ, ◌%◌, ◌^◌, ◌≤◌, ◌<◌}
use lib.Dec.{leb}
use borrow.Author.Tests.{le-leb, lt-leb, leb-true}
use native.Mathlib.Omega.{arith}
use Rattle.laws.proofs.Tests.{and_left}
use Rattle.rules.specs.State.{prn_valid}
use Rattle.rules.specs.Times.{time_valid, second_of}
use Rattle.rules.specs.Refusals.{refusal_number}
use Rattle.rules.specs.declared.Refusal.{Refusal}
use Rattle.rules.specs.declared.Refusal.TheVariants.{WrongLength, OutOfRange, OutOfOrder, Stopped, AllZero, BlockUnfit, KeyNotHeld, ParametersUnfit, NotNewer, TreeUnfit, NotInForce, KeyUnfit, TooFar, NotWaiting, VerdictBad, NoSet, FieldsMissing}

-- ---- ranges

pub prn_low : (p : ℕ) → p < 1 → prn_valid p ≡ false
unfolding prn_valid
prn_low p h = rw (lt-leb 1 p h)

pub prn_high : (p : ℕ) → 36 < p → prn_valid p ≡ false
unfolding prn_valid
prn_high p h = rw (le-leb 1 p (omega arith), lt-leb p 36 h)

pub prn_in : (p : ℕ) → 1 ≤ p → p ≤ 36 → prn_valid p ≡ true
unfolding prn_valid
prn_in p h k = rw (le-leb 1 p h, le-leb p 36 k)

-- a time has room for its stamp
pub time_small : (t : ℕ) → t < 4294967296 → time_valid t ≡ true → t < 4294967295
unfolding time_valid second_of
time_small t h e =
    let k : t % 2 ^ 20 ≤ 604770 = leb-true (t % 2 ^ 20) 604770 (and_left (leb (t % 2 ^ 20) 604770) _ e) in
    omega (arith, k)

-- ---- refusals

-- no refusal has the number of an answer that is none
pub refusal_above_0 : (r : Refusal) → refusal_number r ≡ 0 → ⊥
refusal_above_0 WrongLength z = absurd (omega (arith, z))
refusal_above_0 OutOfRange z = absurd (omega (arith, z))
refusal_above_0 OutOfOrder z = absurd (omega (arith, z))
refusal_above_0 Stopped z = absurd (omega (arith, z))
refusal_above_0 AllZero z = absurd (omega (arith, z))
refusal_above_0 BlockUnfit z = absurd (omega (arith, z))
refusal_above_0 KeyNotHeld z = absurd (omega (arith, z))
refusal_above_0 ParametersUnfit z = absurd (omega (arith, z))
refusal_above_0 NotNewer z = absurd (omega (arith, z))
refusal_above_0 TreeUnfit z = absurd (omega (arith, z))
refusal_above_0 NotInForce z = absurd (omega (arith, z))
refusal_above_0 KeyUnfit z = absurd (omega (arith, z))
refusal_above_0 TooFar z = absurd (omega (arith, z))
refusal_above_0 NotWaiting z = absurd (omega (arith, z))
refusal_above_0 VerdictBad z = absurd (omega (arith, z))
refusal_above_0 NoSet z = absurd (omega (arith, z))
refusal_above_0 FieldsMissing z = absurd (omega (arith, z))
