-- One line more, behind those that are written.
use Rattle.std.proofs.Common.{◌≡◌, ◌∙◌, arith}
use Rattle.replay_lines.proofs.Hexadecimal.{length_record_lines, no_lines, one_line_more}
use Rattle.replay_lines.proofs.record_lines.Goals as goal

pub loop-k-init : goal.loop-k-init
loop-k-init c = no_lines _ _ _

pub loop-k-preserved : goal.loop-k-preserved
loop-k-preserved c =
    let g = c.args in
    let l = c.loop-k in
    c.record_line.ensures ∙ rw l.invariant (one_line_more g.out.now g.area.now g.at l.k (omega arith) (omega arith))

pub returns : goal.returns
returns c =
    let g = c.args in
    let l = c.loop-k in
    let e : l.k ≡ g.n = omega arith in
    (rw e at l.invariant, rw (length_record_lines g.area.now g.n (omega arith)))
