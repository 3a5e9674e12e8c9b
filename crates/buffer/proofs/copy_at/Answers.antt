-- `buffer::copy_at` meets its contract: after all turns all bytes of `src` are spliced in.
use mathlib.Core.Path.{◌≡◌, refl, ap, ◌∙◌}
use lib.ListN.{length, length-take}
use Rattle.laws.proofs.Splice.{length_splice, splice_none, splice_more, splice_all}
use native.Mathlib.Omega.{arith}
use Rattle.buffer.proofs.copy_at.Goals as goal

pub loop-i-init : goal.loop-i-init
loop-i-init c = splice_none _ _ c.args.src.now

pub bounds-dst-at : goal.bounds-dst-at
bounds-dst-at c = omega (arith, ap length c.loop-i.invariant ∙ length_splice _ _ _ (simp length-take (omega arith)))

pub loop-i-preserved : goal.loop-i-preserved
loop-i-preserved c =
    let l = c.loop-i in
    let g = c.args in
    rw l.invariant (splice_more g.dst.now g.at g.src.now l.i _ (omega arith) (omega arith) refl)

pub returns : goal.returns
returns c =
    let g = c.args in
    let l = c.loop-i in
    l.invariant ∙ splice_all g.dst.now g.at g.src.now l.i (omega arith)
