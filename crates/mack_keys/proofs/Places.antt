-- A chain that is sound has sections that can be read: a block holds its fields and the key, and fewer bits than a field has are spare.
-- Assumes nothing.
use mathlib.Core.Path.{◌≡◌, ap}
use Prim.Native.Nat.{ℕ, ◌+◌, ◌-◌, ◌*◌, ◌/◌, ◌%◌, ◌≤◌, ◌<◌}
use native.Mathlib.Omega.{arith}
use native.Mathlib.Nat.{div-add-mod', mod-lt}
use Rattle.rules.specs.Kroot as K
use Rattle.rules.specs.declared.Chain.{Chain}
use Rattle.chain.specs.Sound.{Sound}
use Rattle.mack.specs.Layout.{KeysFit}

-- the fields of a block of n bits, d bits each, beside a key of k bits
fields_fit : (n k d f : ℕ) → f ≡ (n - k) / d → k + d ≤ n → 0 < d → (f * d + k ≤ n) × (n - f * d - k < d)
fields_fit n k d f e h p =
    let q : (n - k) / d * d + (n - k) % d ≡ n - k = div-add-mod' (n - k) d in
    let r : (n - k) % d < d = mod-lt (n - k) p in
    let s : f * d ≡ (n - k) / d * d = ap (λ (x : ℕ). x * d) e in
    (omega arith, omega arith)

pub keys_fit : (c : Chain) → Sound c → KeysFit c
unfolding K.fields_for
keys_fit c s =
    let w = s.walks in
    let f = fields_fit (K.block_bits c.nmack) (8 * c.width) (c.ms + 16) c.fields s.fields_are (omega (arith, s.block_fits)) (omega arith) in
    record {
      fields = record { nmack_low = w.nmack_low; nmack_high = w.nmack_high; ms_high = s.ms_high; fields_fit = omega (arith, f.0) };
      width_high = w.width_high;
      key_fits = omega (arith, f.0);
      few_spare = omega (arith, f.1, s.ms_high);
    }
