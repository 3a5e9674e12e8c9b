-- `cmac::next` meets its contract: a block before the last, or the last.
use mathlib.Core.Path.{sym, ap, ◌∙◌}
use Prim.Native.Nat.{◌-◌, ◌*◌, ◌≤◌, ◌<◌}
use lib.ListN.{length, length-drop}
use Rattle.laws.specs.Lists.{part}
use Rattle.aes.specs.Aes as A
use Rattle.cmac.proofs.Counts.{blocks_hold}
use Rattle.cmac.proofs.Steps.{rest_is, block_full, block_last}
use native.Mathlib.Omega.{arith}
use Rattle.cmac.proofs.next.Goals as goal

pub overflow_mul-rest : goal.overflow_mul-rest
overflow_mul-rest c =
    let n = blocks_hold (length c.args.m.now) in
    omega arith

pub slice_bounds-rest-count : goal.slice_bounds-rest-count
slice_bounds-rest-count c =
    let n = blocks_hold (length c.args.m.now) in
    omega arith

pub slice_bounds-rest-start : goal.slice_bounds-rest-start
slice_bounds-rest-start c =
    let n = blocks_hold (length c.args.m.now) in
    omega arith

pub returns-then-rest-gt16 : goal.returns-then-rest-gt16
unfolding part
returns-then-rest-gt16 c =
    let g = c.args in
    let r = rest_is g.m.now g.i in
    let h : 16 < length g.m.now - 16 * g.i = omega (arith, ap length r, length-drop (16 * g.i) g.m.now) in
    c.xored.ensures ∙ rw r (ap (A.xored g.c) (sym (block_full _ _ g.m.now g.i h)))

pub returns-else-rest-gt16 : goal.returns-else-rest-gt16
returns-else-rest-gt16 c =
    let g = c.args in
    let r = rest_is g.m.now g.i in
    let h : length g.m.now - 16 * g.i ≤ 16 = omega (arith, ap length r, length-drop (16 * g.i) g.m.now) in
    c.xored-else-rest-gt16.ensures ∙ ap (A.xored g.c) (c.last_block.ensures ∙ sym (block_last _ _ g.m.now g.i c.requires.1 h))
