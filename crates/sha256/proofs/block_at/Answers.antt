-- `sha256::block_at` meets its contract: the block lies in the message, past its end, or the message ends in it.
use Rattle.std.proofs.Common.{ℕ, ◌+◌, ◌-◌, ◌*◌, List, ◌++◌, length, set, ap, ◌∙◌, arith, length-append}
use Rattle.laws.specs.Lists.{splice}
use Rattle.laws.specs.Bytes.{be8}
use Rattle.sha256.proofs.Padding.{block_inside, block_past, block_end, block_last}
use Rattle.sha256.proofs.block_at.Goals as goal

pub returns-then-at-len : goal.returns-then-at-len
returns-then-at-len c =
    let g = c.args in
    let a = g.a.now in
    let b = g.b.now in
    c.joined_part.ensures ∙ block_inside (a ++ b) (length a + length b) (g.n * 64) g.i (length-append a b) (omega arith) c.if-at-len.true

pub returns-then-len-at : goal.returns-then-len-at
returns-then-len-at c =
    let g = c.args in
    let a = g.a.now in
    let b = g.b.now in
    c.with_length.ensures ∙ block_past (a ++ b) (length a + length b) (g.n * 64) g.i (length-append a b) (omega arith) c.if-len-at.true c.requires.1

pub returns-then-r-ge56 : goal.returns-then-r-ge56
returns-then-r-ge56 c =
    let g = c.args in
    let a = g.a.now in
    let b = g.b.now in
    let l = length a + length b in
    ap (λ (d : List ℕ). set d (l - g.i * 64) 0x80) c.joined_part-d.ensures
    ∙ block_end (a ++ b) l (g.n * 64) g.i (length-append a b) (omega arith) c.if-len-at.false (omega arith) c.if-r-ge56.true

pub returns : goal.returns
returns c =
    let g = c.args in
    let a = g.a.now in
    let b = g.b.now in
    let l = length a + length b in
    c.with_length-2.ensures
    ∙ ap (λ (d : List ℕ). splice (set d (l - g.i * 64) 0x80) 56 (be8 (8 * (g.n * 64 + l)))) c.joined_part-d.ensures
    ∙ block_last (a ++ b) l (g.n * 64) g.i (length-append a b) (omega arith) c.if-len-at.false (omega arith) c.if-r-ge56.false
