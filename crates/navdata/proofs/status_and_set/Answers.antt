-- `navdata::status_and_set` meets its contract: after each turn the first k times 8 bytes are spliced in, and `before` holds the eight bytes before the next.
use mathlib.Core.Path.{◌≡◌, sym, ap, ◌∙◌}
use Prim.Native.Nat.{ℕ, ◌+◌, ◌*◌, ◌^◌, ◌<◌}
use native.Mathlib.Omega.{arith}
use native.Mathlib.Nat.{add-zero}
use lib.ListN.{length}
use Rattle.laws.proofs.Splice.{length_splice}
use Rattle.rules.specs.Bits.{bits, bytes_at}
use Rattle.rules.proofs.Bounds.{bits_lt}
use Rattle.rules.proofs.Parts.{length-bytes_at}
use Rattle.bitfields.proofs.Fields.{splice-bytes, splice_no_bytes}
use Rattle.nav_sets.specs.Pieces.{pair_of}
use Rattle.nav_sets.proofs.Eights.{bytes_eight}
use Rattle.nav_sets.proofs.Gathered.{pair_inside}
use Rattle.navdata.proofs.Status.{stated, bits_behind, status_number, last_bits, status_spliced}
use Rattle.navdata.proofs.status_and_set.Goals as goal
use Rattle.navdata.proofs.status_and_set.Goals.{At-loop-k}

-- the slice is as long as it was
long : (c : At-loop-k) → length c.loop-k.out ≡ length c.args.out.now
long c =
    let g = c.args in
    let z = stated g.status g.set.now in
    let e = length-bytes_at z 62 (8 * c.loop-k.k) in
    ap length c.loop-k.invariant.1 ∙ length_splice g.out.now g.to (bytes_at z 62 (8 * c.loop-k.k)) (omega arith)

pub loop-k-init : goal.loop-k-init
loop-k-init c =
    let g = c.args in
    let w = c.from-before.ensures in
    (w ∙ status_number g.status g.set.now (omega arith), splice_no_bytes _ _ _ _)

pub put_u64-requires : goal.put_u64-requires
put_u64-requires c = omega (arith, long (goal.at.put_u64-requires c).At-loop-k)

pub loop-k-preserved : goal.loop-k-preserved
loop-k-preserved c =
    let l = c.loop-k in
    let g = c.args in
    let z = stated g.status g.set.now in
    let at = 8 * (8 * l.k) in
    let next : c.get_u64-x.result ≡ bits z (at + 64) 64 =
    c.get_u64-x.ensures ∙ sym (bits_behind g.status g.set.now at 64) ∙ ap (λ (x : ℕ). bits z x 64) (omega arith) in
    let r : c.pair.result ≡ bits z (at + 62) 64 =
    c.pair.ensures z at z (at + 64) l.invariant.0 next ∙ ap (pair_of z (at + 62) 2 z) (add-zero (at + 64)) ∙ pair_inside z at 62 (omega arith) in
    let e : at + 62 ≡ 62 + at = omega arith in
    let f : 8 * (l.k + 1) ≡ 8 * l.k + 8 = omega arith in (
      next ∙ ap (λ (x : ℕ). bits z x 64) (omega arith),
      rw (c.put_u64.ensures, r, e, f, ← bytes_eight z (62 + at), l.invariant.1) (splice-bytes g.out.now g.to z 62 (8 * l.k) 8 (omega arith)),
    )

pub overflow_add-last : goal.overflow_add-last
overflow_add-last c =
    let h : c.bits_at.result < 2 ^ 37 = rw c.bits_at.ensures (bits_lt _ _ _) in
    omega arith

pub overflow_mul-last-2 : goal.overflow_mul-last-2
overflow_mul-last-2 c =
    let h : c.bits_at.result < 2 ^ 37 = rw c.bits_at.ensures (bits_lt _ _ _) in
    omega arith

pub put_five-requires : goal.put_five-requires
put_five-requires c = omega (arith, long (goal.at.put_five-requires c).At-loop-k)

pub shape_of-out : goal.shape_of-out
shape_of-out c = omega (arith, long (goal.at.shape_of-out c).At-loop-k)

pub returns : goal.returns
returns c =
    let l = c.loop-k in
    let g = c.args in
    let z = stated g.status g.set.now in
    let i : 8 * l.k ≡ 64 = omega arith in
    let b : l.before ≡ bits z 512 64 = l.invariant.0 ∙ rw i in
    rw (c.put_five.ensures, c.bits_at.ensures, last_bits g.status g.set.now l.before b, l.invariant.1, i)
    (status_spliced g.out.now g.to g.status g.set.now (omega arith))
