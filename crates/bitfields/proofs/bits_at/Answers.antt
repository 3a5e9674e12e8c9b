-- `bitfields::bits_at` meets its contract: the field is the middle of the whole bytes that it lies in.
use mathlib.Core.Path.{◌≡◌, ap, ◌∙◌}
use mathlib.Core.List.{List}
use Prim.Native.Nat.{ℕ, ◌+◌, ◌-◌, ◌*◌, ◌/◌, ◌%◌, ◌^◌, ◌≤◌}
use native.Mathlib.Omega.{arith}
use native.Mathlib.Nat.{one-mul}
use lib.Bits.{bit_and, and_mask}
use lib.Pow.{shl_exact, pow_pos}
use Rattle.rules.specs.Bits.{bits}
use Rattle.bitfields.proofs.Fields.{bits_cut}
use Rattle.bitfields.proofs.bits_at.Goals as goal

one_shifted : (n : ℕ) → n ≤ 56 → 1 * 2 ^ n % 2 ^ 64 ≡ 2 ^ n
one_shifted n h = shl_exact 1 n 64 (omega arith) (omega arith) ∙ one-mul (2 ^ n)

-- the field is cut out of the whole bytes that it lies in
field_of : (s : List ℕ) (at n v count : ℕ) → n ≤ 56 → at % 8 + n ≤ 8 * count → v ≡ bits s (8 * (at / 8)) (8 * count)
    → bit_and (v / 2 ^ (8 * count - (at % 8 + n))) (1 * 2 ^ n % 2 ^ 64 - 1) ≡ bits s at n
field_of s at n v count h k e =
    let t : ℕ = 8 * count - (at % 8 + n) in
    let w : 8 * count ≡ at % 8 + n + t = omega arith in
    let p : 8 * (at / 8) + at % 8 ≡ at = omega arith in
    let q : v ≡ bits s (8 * (at / 8)) (at % 8 + n + t) = e ∙ ap (bits s (8 * (at / 8))) w in
    let f = bits_cut s (8 * (at / 8)) (at % 8) n t in
    ap (λ (m : ℕ). bit_and (v / 2 ^ t) (m - 1)) (one_shifted n h)
    ∙ and_mask (v / 2 ^ t) n
    ∙ ap (λ (x : ℕ). x / 2 ^ t % 2 ^ n) q
    ∙ f
    ∙ ap (λ (x : ℕ). bits s x n) p

pub overflow_sub-result : goal.overflow_sub-result
overflow_sub-result c = omega (arith, one_shifted c.args.n (omega arith), pow_pos c.args.n)

pub returns : goal.returns
returns c =
    let g = c.args in
    field_of g.s.now g.at g.n c.number.result ((g.at % 8 + g.n + 7) / 8) (omega arith) (omega arith) c.number.ensures
