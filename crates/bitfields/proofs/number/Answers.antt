-- `bitfields::number` meets its contract: so far v is the number in the bytes that came.
use mathlib.Core.Path.{◌≡◌, refl, sym, ap, ◌∙◌}
use mathlib.Core.List.{List}
use Prim.Native.Nat.{◌+◌, ◌-◌, ℕ, ◌*◌, ◌^◌, ◌≤◌, ◌<◌}
use native.Mathlib.Omega.{arith}
use lib.ListN.{get_or, length, take, drop}
use Rattle.rules.specs.Bits.{bits}
use Rattle.laws.proofs.Splice.{length_part, range_part, get_d_part}
use Rattle.bitfields.proofs.Fields.{bits_small, bits_byte_more}
use Rattle.bitfields.proofs.number.Goals as goal
use Rattle.bitfields.proofs.number.Goals.{In-loop-b}

zero_bits : (s : List ℕ) (at : ℕ) → 0 ≡ bits s at (8 * 0)
unfolding bits
zero_bits s at = refl

-- how many bytes the loop goes over, and which
bytes : (s : List ℕ) (a n : ℕ) → a + n ≤ length s → length (take (a + n - a) (drop a s)) ≡ n
bytes s a n h = ap length (range_part s a n) ∙ length_part s a n h

byte : (s : List ℕ) (a n i : ℕ) → i < n → get_or (take (a + n - a) (drop a s)) i 0 ≡ get_or s (a + i) 0
byte s a n i h = ap (λ (l : List ℕ). get_or l i 0) (range_part s a n) ∙ get_d_part s a n i h

below : (c : In-loop-b) → c.loop-b.b-index < c.args.n
below c = omega (arith, bytes c.args.s.now c.args.first c.args.n (omega arith))

small : (c : In-loop-b) → c.loop-b.v < 2 ^ 56
small c =
    let h : 8 * c.loop-b.b-index ≤ 56 = omega (arith, below c) in
    rw c.loop-b.invariant (bits_small _ _ _ 56 h)

pub loop-b-init : goal.loop-b-init
loop-b-init c = zero_bits c.args.s.now (8 * c.args.first)

pub overflow_mul-v : goal.overflow_mul-v
overflow_mul-v c = omega (arith, small (goal.at.overflow_mul-v c).In-loop-b)

pub overflow_add-v : goal.overflow_add-v
overflow_add-v c =
    let g = c.args in
    let e = byte g.s.now g.first g.n c.loop-b.b-index (below (goal.at.overflow_add-v c).In-loop-b) in
    omega (arith, small (goal.at.overflow_add-v c).In-loop-b, c.from.ensures ∙ e, c.type_inv.s (g.first + c.loop-b.b-index))

pub loop-b-preserved : goal.loop-b-preserved
loop-b-preserved c =
    let g = c.args in
    let i : ℕ = c.loop-b.b-index in
    let e = byte g.s.now g.first g.n i (below (goal.at.loop-b-preserved c).In-loop-b) in
    let b : get_or g.s.now (g.first + i) 0 < 256 = omega (arith, c.type_inv.s (g.first + i)) in
    rw (c.loop-b.invariant, c.from.ensures ∙ e) (sym (bits_byte_more g.s.now g.first i b))

pub returns : goal.returns
returns c =
    let g = c.args in
    let e : c.loop-b.b-index ≡ g.n = omega (arith, bytes g.s.now g.first g.n (omega arith)) in
    c.loop-b.invariant ∙ rw e
