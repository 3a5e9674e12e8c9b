-- Marks and ages.
-- Assumes nothing.
use mathlib.Core.Path.{◌≡◌, sym, ap, ◌∙◌}
use mathlib.Core.Bool.{true, false}
use mathlib.Core.Logic.{⊎_elim}
use Prim.Native.Nat.{ℕ, ◌+◌, ◌-◌, ◌*◌, ◌/◌, ◌%◌, ◌^◌, ◌≤◌, ◌<◌}
use native.Mathlib.Nat.{mul-le-mul_right, mod-lt, add-mul}
use native.Mathlib.Omega.{arith}
use lib.Count.{ones, ones_step}
use lib.Dec.{ltb}
use lib.Pow.{pow-add, pow_pos, shr_lt, split}
use borrow.Author.Tests.{eqb-true, eqb-false, lt-ltb, le-ltb}
use Rattle.laws.proofs.Splice.{below?}
use Rattle.rules.specs.Gather as Rule

-- a block 0 that is marked is counted
pub marked_counts : (m : ℕ) → Rule.marked m 0 ≡ true → 1 ≤ ones m
unfolding Rule.marked
marked_counts m e = omega (arith, eqb-true (m / 1 % 2) 1 e, ones_step m)

joined : (a b d m : ℕ) → a + b ≡ m → b < d → a + 2 * d ≤ 65536 → m + d < 65536
joined a b d m e h k = omega arith

-- a mark that is not there fits in sixteen bits
pub mark_fits : (m k : ℕ) → m < 2 ^ 16 → k < 16 → Rule.marked m k ≡ false → m + 2 ^ k < 2 ^ 16
unfolding Rule.marked
mark_fits m k h l e =
    let p : 16 ≡ (15 - k) + 1 + k = omega arith in
    let q : 2 ^ (15 - k + 1 + k) ≡ 2 ^ (15 - k + 1) * 2 ^ k = pow-add 2 (15 - k + 1) k in
    let r : 2 ^ (15 - k + 1) ≡ 2 ^ (15 - k) * 2 = pow-add 2 (15 - k) 1 in
    let w : 2 ^ 16 ≡ 2 ^ (15 - k + 1) * 2 ^ k = ap (λ (x : ℕ). 2 ^ x) p ∙ q in
    let b : m / 2 ^ k < 2 ^ (15 - k + 1) = shr_lt (15 - k + 1) k (rw (← p) h) in
    let u = eqb-false (m / 2 ^ k % 2) 1 e in
    let v : m / 2 ^ k + 2 ≤ 2 ^ (15 - k + 1) = omega arith in
    let z = mul-le-mul_right (2 ^ k) v in
    let y = split m k in
    let x = add-mul (m / 2 ^ k) 2 (2 ^ k) in
    let a : m % 2 ^ k < 2 ^ k = mod-lt m (pow_pos k) in
    let z2 : m / 2 ^ k * 2 ^ k + 2 * 2 ^ k ≤ 65536 = rw (← x, w) z in
    joined (m / 2 ^ k * 2 ^ k) (m % 2 ^ k) (2 ^ k) m y a z2

-- an age by a sum
pub age : (a b : ℕ) → ltb (b + 3600) a ≡ ltb 3600 (a - b)
age a b =
    ⊎_elim
    (λ h. lt-ltb (b + 3600) a h ∙ sym (lt-ltb 3600 (a - b) (omega arith)))
    (λ h. le-ltb (b + 3600) a h ∙ sym (le-ltb 3600 (a - b) (omega arith)))
    (below? (b + 3600) a)
