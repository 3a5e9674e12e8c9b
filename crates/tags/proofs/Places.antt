-- A section's blocks and fields are few, and the chain of accepted parameters has the layout that the fields need.
-- Assumes nothing.
use mathlib.Core.Path.{◌≡◌}
use mathlib.Core.Logic.{⊎_elim}
use Prim.Native.Nat.{ℕ, zero, suc, ◌+◌, ◌-◌, ◌*◌, ◌/◌, ◌%◌, ◌≤◌, ◌<◌}
use native.Mathlib.Omega.{arith}
use native.Mathlib.Nat.{mul-le-mul_left, div-mul-le_self, div-le_self, div-add-mod, mod-le, mod-lt, le_trans}
use Rattle.laws.proofs.Splice.{below?}
use Rattle.rules.specs.Kroot.{block_bits, fields_for}
use Rattle.rules.specs.declared.Chain.{Chain}
use Rattle.tags.specs.Layout.{Laid}

-- block and position are small
pub small : (c : Chain) → Laid c → (j : ℕ) → j < c.nmack * c.fields → (j / c.fields ≤ 13) × (j % c.fields ≤ 13)
small c l j h =
    let k : j ≤ 13 = omega (arith, l.few) in
    (le_trans (div-le_self j c.fields) k, le_trans (mod-le j c.fields) k)

-- ---- a chain of accepted parameters is laid out so

fields_few : (n f : ℕ) → 1 ≤ n → n ≤ 3 → f * 26 + 96 ≤ block_bits n → n * f ≤ 14
unfolding block_bits
fields_few zero f p q h = absurd (omega arith)
fields_few (suc zero) f p q h = omega arith
fields_few (suc (suc zero)) f p q h = omega arith
fields_few (suc (suc (suc zero))) f p q h = omega arith
fields_few (suc (suc (suc (suc n)))) f p q h = absurd (omega arith)

-- a quotient of a number that is not below the divisor is not 0
at_least_one : (x d : ℕ) → 1 ≤ d → d ≤ x → 1 ≤ x / d
at_least_one x d p h =
    ⊎_elim
    (λ (z : x / d < 1).
    let e : x / d ≡ 0 = omega arith in
    let m = mod-lt x p in
    let s = div-add-mod x d in
    let t : d * (x / d) ≡ 0 = rw e (omega arith) in
    absurd (omega arith))
    (λ z. z)
    (below? (x / d) 1)

pub laid : (c : Chain) → 1 ≤ c.nmack → c.nmack ≤ 3 → 10 ≤ c.ms → c.ms ≤ 40 → 12 ≤ c.width
    → c.fields ≡ fields_for c.nmack (8 * c.width) c.ms
    → 8 * c.width + c.ms + 16 ≤ block_bits c.nmack
    → Laid c
unfolding fields_for
laid c n1 n3 m1 m2 w e h =
    let room : ℕ = block_bits c.nmack - 8 * c.width in
    let low : 1 ≤ c.fields = rw e (at_least_one room (c.ms + 16) (omega arith) (omega arith)) in
    let fit : c.fields * (c.ms + 16) ≤ room = rw e (div-mul-le_self room (c.ms + 16)) in
    let wide : c.fields * 26 ≤ c.fields * (c.ms + 16) = mul-le-mul_left c.fields (omega arith) in
    record {
      fit = record { nmack_low = n1; nmack_high = n3; ms_high = m2; fields_fit = omega arith };
      fields_low = low;
      few = fields_few c.nmack c.fields n1 n3 (omega arith);
    }
