-- `bitfields::bytes_to` meets its contract: after i turns the first i bytes are spliced in.
use mathlib.Core.Path.{◌≡◌, ◌∙◌}
use Prim.Native.Nat.{◌+◌, ◌*◌, ◌/◌, ◌%◌}
use native.Mathlib.Omega.{arith}
use Rattle.bitfields.proofs.Fields.{splice_byte, splice_no_bytes}
use Rattle.bitfields.proofs.bytes_to.Goals as goal

pub loop-i-init : goal.loop-i-init
loop-i-init c = splice_no_bytes _ _ _ _

pub loop-i-preserved : goal.loop-i-preserved
loop-i-preserved c =
    let l = c.loop-i in
    let g = c.args in
    let e : 8 * (g.at / 8 + l.i) + g.at % 8 ≡ g.at + 8 * l.i = omega arith in
    rw l.invariant (splice_byte g.out.now g.to g.s.now g.at l.i c.byte_at.result (omega arith) (c.byte_at.ensures ∙ rw e))
