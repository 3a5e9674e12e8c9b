-- A cursor that has taken off j fields in order stands at the place that the rules compute for field j, and likewise for blocks; fields and
-- blocks end inside the section.
-- Assumes nothing.
use mathlib.Core.Path.{◌≡◌, refl, ap}
use mathlib.Core.Logic.{⊎_elim}
use Prim.Native.Nat.{ℕ, zero, suc, ◌+◌, ◌-◌, ◌*◌, ◌/◌, ◌%◌, ◌≤◌, ◌<◌}
use native.Mathlib.Omega.{arith}
use native.Mathlib.Nat.{mul-le-mul_right, div-mul-le_self, div-add-mod', mod-lt, div-eq_of_lt-le, zero-div, zero-mod, add-mul, le_trans}
use lib.Dec.{eqb}
use Rattle.laws.proofs.Splice.{below?}
use Rattle.laws.proofs.Refusal.{by_test}
use Rattle.rules.specs.Kroot.{block_bits}
use Rattle.rules.specs.Mack as S
use Rattle.rules.specs.declared.Chain.{Chain}
use Rattle.mack.specs.Layout.{rest_bits, FieldsFit, KeysFit}

less : (x : ℕ) → x + 1 - 1 ≡ x
less x = omega arith

-- quotient and remainder of the next number: inside a row of d, and at its end
pub in_row : (j d : ℕ) → j % d + 1 < d → ((j + 1) / d ≡ j / d) × ((j + 1) % d ≡ j % d + 1)
in_row j d h =
    let e : j / d * d + j % d ≡ j = div-add-mod' j d in
    let q : (j + 1) / d ≡ j / d = div-eq_of_lt-le d (omega arith) (rw (add-mul (j / d) 1 d) (omega arith)) in
    let e' : (j + 1) / d * d + (j + 1) % d ≡ j + 1 = div-add-mod' (j + 1) d in
    let s : (j + 1) / d * d ≡ j / d * d = ap (λ (x : ℕ). x * d) q in
    (q, omega arith)

pub at_end : (j d : ℕ) → j % d + 1 ≡ d → ((j + 1) / d ≡ j / d + 1) × ((j + 1) % d ≡ 0)
at_end j d h =
    let e : j / d * d + j % d ≡ j = div-add-mod' j d in
    let z : (j / d + 1) * d ≡ j / d * d + 1 * d = add-mul (j / d) 1 d in
    let z' : (j / d + 1 + 1) * d ≡ (j / d + 1) * d + 1 * d = add-mul (j / d + 1) 1 d in
    let q : (j + 1) / d ≡ j / d + 1 = div-eq_of_lt-le d (omega arith) (omega arith) in
    let e' : (j + 1) / d * d + (j + 1) % d ≡ j + 1 = div-add-mod' (j + 1) d in
    let s : (j + 1) / d * d ≡ (j / d + 1) * d = ap (λ (x : ℕ). x * d) q in
    (q, omega arith)

-- the first field stands at 0, the first block too
pub first_field : (c : Chain) → S.field_at c 0 ≡ 0
unfolding S.field_at S.block_at
first_field c = rw (zero-div c.fields, zero-mod c.fields) (omega arith)

pub first_block : (c : Chain) → S.block_at c 1 ≡ 0
unfolding S.block_at
first_block c = omega arith

-- the place of a field, as it is computed
pub place_is : (c : Chain) (j : ℕ) → j / c.fields * block_bits c.nmack + j % c.fields * (c.ms + 16) ≡ S.field_at c j
unfolding S.field_at S.block_at
place_is c j = rw (less (j / c.fields))

-- inside a block the next field follows
pub next_in_block : (c : Chain) (j : ℕ) → j % c.fields + 1 < c.fields → S.field_at c (j + 1) ≡ S.field_at c j + (c.ms + 16)
unfolding S.field_at S.block_at
next_in_block c j h =
    let p = in_row j c.fields h in
    let m : (j % c.fields + 1) * (c.ms + 16) ≡ j % c.fields * (c.ms + 16) + 1 * (c.ms + 16) = add-mul (j % c.fields) 1 (c.ms + 16) in
    rw (p.0, p.1, m) (omega arith)

-- after its last field, the key and the spare bits are passed
pub next-block : (c : Chain) (j : ℕ) → FieldsFit c → j % c.fields + 1 ≡ c.fields → S.field_at c (j + 1) ≡ S.field_at c j + (c.ms + 16) + rest_bits c
unfolding S.field_at S.block_at
next-block c j s h =
    let p = at_end j c.fields h in
    let m : (j % c.fields + 1) * (c.ms + 16) ≡ j % c.fields * (c.ms + 16) + 1 * (c.ms + 16) = add-mul (j % c.fields) 1 (c.ms + 16) in
    let w : (j % c.fields + 1) * (c.ms + 16) ≡ c.fields * (c.ms + 16) = ap (λ (x : ℕ). x * (c.ms + 16)) h in
    let n : (j / c.fields + 1) * block_bits c.nmack ≡ j / c.fields * block_bits c.nmack + 1 * block_bits c.nmack = add-mul (j / c.fields) 1 (block_bits c.nmack) in
    rw (p.0, p.1, less (j / c.fields + 1), less (j / c.fields), n) (omega (arith, s.fields_fit))

-- the next block follows
pub block_follows : (c : Chain) (b : ℕ) → 1 ≤ b → S.block_at c (b + 1) ≡ S.block_at c b + block_bits c.nmack
unfolding S.block_at
block_follows c b h =
    let e : b + 1 - 1 ≡ b - 1 + 1 = omega arith in
    rw (e, add-mul (b - 1) 1 (block_bits c.nmack)) (omega arith)

-- ---- inside the section

pub bits_high : (n : ℕ) → block_bits n ≤ 480
unfolding block_bits
bits_high n = by_test (λ (x : ℕ). x ≤ 480) (eqb n 3) (λ _. omega arith) (λ _. by_test (λ (x : ℕ). x ≤ 480) (eqb n 2) (λ _. omega arith) (λ _. omega arith))

-- a section's blocks and fields end inside it
blocks_fit : (n : ℕ) → 1 ≤ n → n ≤ 3 → n * block_bits n ≤ 480
unfolding block_bits
blocks_fit zero p q = absurd (omega arith)
blocks_fit (suc zero) p q = omega arith
blocks_fit (suc (suc zero)) p q = omega arith
blocks_fit (suc (suc (suc zero))) p q = omega arith
blocks_fit (suc (suc (suc (suc n)))) p q = absurd (omega arith)

module _ (c : Chain) (s : FieldsFit c) where
  -- a block that begins after b others
  inside : (b : ℕ) → b < c.nmack → b * block_bits c.nmack + block_bits c.nmack ≤ 480
  inside b h =
      let e : (b + 1) * block_bits c.nmack ≡ b * block_bits c.nmack + 1 * block_bits c.nmack = add-mul b 1 (block_bits c.nmack) in
      let p : (b + 1) * block_bits c.nmack ≤ c.nmack * block_bits c.nmack = mul-le-mul_right (block_bits c.nmack) (omega arith) in
      omega (arith, blocks_fit c.nmack s.nmack_low s.nmack_high)

  pub block_inside : (b : ℕ) → 1 ≤ b → b ≤ c.nmack → S.block_at c b + block_bits c.nmack ≤ 480
  unfolding S.block_at
  block_inside b l h = inside (b - 1) (omega arith)

  module _ (j : ℕ) (h : j < c.nmack * c.fields) where
    in_section : j / c.fields < c.nmack
    in_section =
        ⊎_elim (λ p. p)
        (λ p.
        let z : c.nmack * c.fields ≤ j = le_trans (mul-le-mul_right c.fields p) (div-mul-le_self j c.fields) in
        absurd (omega arith))
        (below? (j / c.fields) c.nmack)

    pub some_field : 1 ≤ c.fields
    some_field =
        ⊎_elim
        (λ (z : c.fields < 1).
        let e : c.fields ≡ 0 = omega arith in
        let n : c.nmack * c.fields ≡ 0 = rw e (omega arith) in
        absurd (omega arith))
        (λ z. z)
        (below? c.fields 1)

    -- field j, and what follows the fields of its block
    pub field_inside : S.field_at c j + (c.ms + 16) ≤ 480
    unfolding S.field_at S.block_at
    field_inside =
        let q : j % c.fields + 1 ≤ c.fields = omega (arith, mod-lt j some_field) in
        let b = rw (add-mul (j % c.fields) 1 (c.ms + 16)) at (mul-le-mul_right (c.ms + 16) q) in
        rw (less (j / c.fields)) (omega (arith, b, inside (j / c.fields) in_section, s.fields_fit))

    pub end_inside : j % c.fields + 1 ≡ c.fields → S.field_at c j + (c.ms + 16) + rest_bits c ≤ 480
    unfolding S.field_at S.block_at
    end_inside e =
        let m : (j % c.fields + 1) * (c.ms + 16) ≡ j % c.fields * (c.ms + 16) + 1 * (c.ms + 16) = add-mul (j % c.fields) 1 (c.ms + 16) in
        let w : (j % c.fields + 1) * (c.ms + 16) ≡ c.fields * (c.ms + 16) = ap (λ (x : ℕ). x * (c.ms + 16)) e in
        rw (less (j / c.fields)) (omega (arith, inside (j / c.fields) in_section, s.fields_fit))

-- a block's key ends inside the section
pub key_inside : (c : Chain) → KeysFit c → (b : ℕ) → 1 ≤ b → b ≤ c.nmack → S.key_at c b + 8 * c.width ≤ 480
unfolding S.key_at
key_inside c s b l h = omega (arith, block_inside c s.fields b l h, s.key_fits, s.fields.fields_fit)

-- the place of a key, as it is computed
pub key_place_is : (c : Chain) (b : ℕ) → (b - 1) * block_bits c.nmack + c.fields * (c.ms + 16) ≡ S.key_at c b
unfolding S.key_at S.block_at
key_place_is c b = refl
