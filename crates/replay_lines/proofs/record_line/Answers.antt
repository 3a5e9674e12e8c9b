-- The digits of one byte more, behind those that are written; then the line feed.
use Rattle.std.proofs.Common.{◌≡◌, ℕ, List, ◌+◌, ◌-◌, ◌*◌, ◌≤◌, ◌<◌, length, get_or, take, drop, ap, ◌∙◌, arith}
use Rattle.laws.proofs.Splice.{range_part, length_part, get_d_part}
use Rattle.replay_lines.proofs.Hexadecimal.{none_yet, one_byte_more, line_ended}
use Rattle.replay_lines.proofs.record_line.Goals as goal

-- the twelve bytes that the loop is lent
bytes : (area : List ℕ) (k : ℕ) → k * 12 + 12 ≤ length area → length (take (k * 12 + 12 - k * 12) (drop (k * 12) area)) ≡ 12
bytes area k h = ap length (range_part area (k * 12) 12) ∙ length_part area (k * 12) 12 h

byte : (area : List ℕ) (k i : ℕ) → i < 12 → get_or (take (k * 12 + 12 - k * 12) (drop (k * 12) area)) i 0 ≡ get_or area (k * 12 + i) 0
byte area k i h = ap (λ (l : List ℕ). get_or l i 0) (range_part area (k * 12) 12) ∙ get_d_part area (k * 12) 12 i h

pub loop-i-init : goal.loop-i-init
loop-i-init c = none_yet _ _ _ _

pub loop-i-preserved : goal.loop-i-preserved
loop-i-preserved c =
    let g = c.args in
    let l = c.loop-i in
    let in_line : l.i < 12 = omega (arith, bytes g.area.now g.k (omega arith), c.loop-i-test.true) in
    c.put_byte.ensures
    ∙ rw (byte g.area.now g.k l.i in_line, l.invariant) (one_byte_more g.out.now g.area.now g.at (g.k * 12) l.i (omega arith) (omega arith))

pub returns : goal.returns
returns c =
    let g = c.args in
    let l = c.loop-i in
    let all : l.i ≡ 12 = omega (arith, bytes g.area.now g.k (omega arith), c.loop-i-test.false, l.auto.i-end) in
    line_ended g.out.now l.out g.area.now g.at g.k l.i all l.invariant (omega arith) (omega arith)
