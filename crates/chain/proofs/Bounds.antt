-- The slots of keys and tags are below 2 ^ 34, and the chain of accepted parameters is sound.
-- Assumes nothing.
use mathlib.Core.Path.{◌≡◌, refl}
use mathlib.Core.Bool.{false}
use mathlib.Core.List.{List}
use Prim.Native.Nat.{ℕ, zero, suc, ◌+◌, ◌-◌, ◌*◌, ◌/◌, ◌%◌, ◌^◌, ◌≤◌, ◌<◌}
use native.Mathlib.Omega.{arith}
use native.Mathlib.Nat.{mul-le-mul, mod-lt}
use lib.Dec.{ltb, eqb}
use borrow.Author.Tests.{ltb-false, eqb-false}
use Rattle.laws.specs.Refusal.{neb}
use Rattle.laws.proofs.Tests.{neither}
use Rattle.times.proofs.Times.{seconds_bound, hour_bound}
use Rattle.rules.specs.Bits.{bits}
use Rattle.rules.specs.Times as T
use Rattle.rules.specs.Chain as S
use Rattle.rules.specs.Kroot as K
use Rattle.rules.specs.State.{maclt_of}
use Rattle.rules.specs.declared.Chain.{Chain}
use Rattle.rules.proofs.Bounds.{bits_lt, key_width_range, tag_width_bound}
use Rattle.chain.specs.Sound.{Walks, Sound}

-- ---- slots

-- a slot of a sub-frame that starts before 2 ^ 32 + 300 seconds
slot_below : (ns nmack s b p : ℕ) → 1 ≤ ns → ns ≤ 36 → nmack ≤ 3 → s ≤ 143165586 → b < 256 → T.slot_of ns nmack s b p < 2 ^ 34
unfolding T.slot_of
slot_below ns nmack s b p g h k l m =
    let x : s * ns ≤ 143165586 * 36 = mul-le-mul {n₂ = 143165586} {m₂ = 36} l h in
    let y : s * ns * nmack ≤ 143165586 * 36 * 3 = mul-le-mul {n₂ = 143165586 * 36} {m₂ = 3} x k in
    let z : (b - 1) * ns ≤ 255 * 36 = mul-le-mul {n₂ = 255} {m₂ = 36} (omega arith) h in
    let r : (p - 1) % ns < ns = mod-lt (p - 1) g in
    omega arith

pub sent_bound : (c : Chain) (g b p : ℕ) → Walks c → g < 2 ^ 32 → b < 256 → S.sent_slot c g b p < 2 ^ 34
unfolding S.sent_slot T.subframe_at
sent_bound c g b p w h k =
    let s : (T.seconds_of g - c.root) / 30 ≤ 143165586 = omega (arith, seconds_bound g h) in
    slot_below c.ns c.nmack _ b p w.ns_low w.ns_high w.nmack_high s k

-- ---- a chain in force

-- a key that HF takes is part of a digest
width_taken : (d : List ℕ) → K.hf_bad d ≡ false → K.key_width (K.ks_of d) ≤ S.hash_bytes (K.hf_of d)
unfolding K.hf_bad
width_taken d e = ltb-false _ _ (neither (ltb 2 (K.hf_of d)) _ e).1

-- parameters that are not bad: HF takes the key, NMACK is not 0, and a block holds a field and the key
params_good : (config d : List ℕ) → K.parameters_bad config d ≡ false
    → (K.hf_bad d ≡ false) × ((K.nmack_of d ≡ 0 → ⊥) × (8 * K.key_width (K.ks_of d) + K.tag_width (K.ms_of d) + 16 ≤ K.block_bits (K.nmack_of d)))
unfolding K.parameters_bad
params_good config d e =
    let e1 = neither (K.hf_bad d) _ e in
    let e2 = neither (K.mf_bad d) _ e1.1 in
    let e3 = neither (neb (K.mo_of d) 0) _ e2.1 in
    let e4 = neither (eqb (K.nmack_of d) 0) _ e3.1 in
    let e5 = neither (ltb 8 (K.ks_of d)) _ e4.1 in
    let e6 = neither (ltb 9 (K.ms_of d)) _ e5.1 in
    let e7 = neither (neb (K.maclt_field_of d) (maclt_of config)) _ e6.1 in
    let e8 = neither (ltb (K.block_bits (K.nmack_of d)) (8 * K.key_width (K.ks_of d) + K.tag_width (K.ms_of d) + 16)) _ e7.1 in
    (e1.0, (eqb-false _ _ e4.0, ltb-false _ _ e8.0))

nmack_below : (d : List ℕ) → K.nmack_of d < 4
unfolding K.nmack_of
nmack_below d = bits_lt d 2 2

positive : (n : ℕ) → (n ≡ 0 → ⊥) → 1 ≤ n
positive zero f = absurd (f refl)
positive (suc n) f = omega arith

pub chain_sound : (ns : ℕ) (config d : List ℕ) → 1 ≤ ns → ns ≤ 36 → K.parameters_bad config d ≡ false → Sound (K.chain_with ns d)
unfolding K.chain_with K.root_seconds_of K.root_week_of K.root_hour_of
chain_sound ns config d h k e =
    let g = params_good config d e in
    let w = key_width_range (K.ks_of d) in
    let n : K.nmack_of d < 4 = nmack_below d in
    record {
      walks = record {
        ns_low = h;
        ns_high = k;
        nmack_low = positive (K.nmack_of d) g.1.0;
        nmack_high = omega arith;
        root_high = omega (arith, hour_bound (bits d 28 12) (bits d 40 8) (bits_lt d 28 12) (bits_lt d 40 8));
        width_low = w.0;
        width_high = w.1;
        width_fits = width_taken d g.0;
      };
      ms_high = tag_width_bound (K.ms_of d);
      fields_are = refl;
      block_fits = g.1.1;
    }
