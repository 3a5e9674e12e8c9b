-- Times and slots stay in range, and a GST_SF in 32 bits has the bytes of the whole.
-- Assumes nothing.
use mathlib.Core.Path.{◌≡◌}
use mathlib.Core.Bool.{Bool, true, false, cond}
use Prim.Native.Nat.{ℕ, ◌+◌, ◌-◌, ◌*◌, ◌/◌, ◌%◌, ◌^◌, ◌≤◌, ◌<◌}
use native.Mathlib.Nat.{mul-le-mul, mul-pos, mod-lt, div-le_self}
use native.Mathlib.Omega.{arith}
use lib.Dec.{ltb, eqb}
use borrow.Author.Tests.{lt-ltb}
use Rattle.laws.specs.Bytes.{be4}
use Rattle.rules.specs.Times as S

pub seconds_bound : (g : ℕ) → g < 2 ^ 32 → S.seconds_of g < 2 ^ 32
unfolding S.seconds_of S.week_of S.second_of
seconds_bound g h = omega arith

pub hour_bound : (week hour : ℕ) → week < 4096 → hour < 256 → S.hour_seconds week hour < 2 ^ 32
unfolding S.hour_seconds
hour_bound week hour h k = omega arith

delays : (b d : Bool) → cond b 1 (cond d 10 0) ≤ 10
delays true d = omega arith
delays false true = omega arith
delays false false = omega arith

pub delay_bound : (adkd : ℕ) → S.delay_of adkd ≤ 10
unfolding S.delay_of
delay_bound adkd = delays (eqb adkd 11) (eqb adkd 12)

pub key_bound : (g adkd : ℕ) → g < 2 ^ 32 → S.key_seconds g adkd < 2 ^ 33
unfolding S.key_seconds
key_bound g adkd h = omega (arith, seconds_bound g h, delay_bound adkd)

pub subframe_bound : (root seconds : ℕ) → S.subframe_at root seconds ≤ seconds
unfolding S.subframe_at
subframe_bound root seconds = omega arith

-- the low 32 bits of a GST_SF
pub gst_low : (w s : ℕ) → s < 2 ^ 20 → (w * 2 ^ 20 + s) % 2 ^ 32 ≡ w % 4096 * 2 ^ 20 + s
gst_low w s h = omega arith

-- the four bytes of a number are those of its low 32 bits
pub be4_low : (x : ℕ) → be4 (x % 2 ^ 32) ≡ be4 x
unfolding be4
be4_low x =
    let a : x % 2 ^ 32 / 256 ^ 3 % 256 ≡ x / 256 ^ 3 % 256 = omega arith in
    let b : x % 2 ^ 32 / 256 ^ 2 % 256 ≡ x / 256 ^ 2 % 256 = omega arith in
    let c : x % 2 ^ 32 / 256 ^ 1 % 256 ≡ x / 256 ^ 1 % 256 = omega arith in
    let d : x % 2 ^ 32 % 256 ≡ x % 256 = omega arith in
    rw (a, b, c, d)

-- a slot's sum, product by product
pub slot_products : (ns nmack s b : ℕ) → ns ≤ 36 → nmack ≤ 3 → s < 2 ^ 33 → b < 256
    → (s * ns < 2 ^ 39) × ((s * ns * nmack < 2 ^ 40) × ((b - 1) * ns < 2 ^ 14))
slot_products ns nmack s b h k l m =
    let p : s * ns ≤ 8589934592 * 36 = mul-le-mul {n₂ = 8589934592} {m₂ = 36} (omega arith) h in
    let q : s * ns * nmack ≤ 8589934592 * 36 * 3 = mul-le-mul {n₂ = 8589934592 * 36} {m₂ = 3} p k in
    let r : (b - 1) * ns ≤ 255 * 36 = mul-le-mul {n₂ = 255} {m₂ = 36} (omega arith) h in
    (omega arith, (omega arith, omega arith))

pub slot_bound : (ns nmack s b p : ℕ) → 1 ≤ ns → ns ≤ 36 → nmack ≤ 3 → s < 2 ^ 33 → b < 256 → S.slot_of ns nmack s b p < 2 ^ 41
unfolding S.slot_of
slot_bound ns nmack s b p g h k l m =
    let q = slot_products ns nmack s b h k l m in
    let r : (p - 1) % ns < ns = mod-lt (p - 1) g in
    omega arith

-- the sub-frames of slots: the divisor, and the quotient
pub slot_quotient : (ns nmack root m : ℕ) → 1 ≤ ns → ns ≤ 36 → 1 ≤ nmack → nmack ≤ 3
    → (ns * nmack ≤ 108) × ((0 < ns * nmack) × ((m - 1) / (ns * nmack) ≤ m))
slot_quotient ns nmack root m a b d e =
    let p : ns * nmack ≤ 36 * 3 = mul-le-mul {n₂ = 36} {m₂ = 3} b e in
    let q : 0 < ns * nmack = mul-pos a d in
    let r = div-le_self (m - 1) (ns * nmack) in
    (omega arith, (q, omega arith))

-- a GST_SF of 32 bits has a week of 12
pub week_bound : (g : ℕ) → g < 2 ^ 32 → ltb (S.week_of g) 4096 ≡ true
unfolding S.week_of
week_bound g h = lt-ltb (g / 2 ^ 20) 4096 (omega arith)
