-- `sha3::sponge` meets its contract: before turn i, the first i blocks are absorbed.
use Rattle.std.proofs.Common.{◌≡◌, ◌-◌, ◌*◌, ◌/◌, ◌≤◌, ◌<◌, length, refl, ◌∙◌, arith}
use Rattle.sha3.proofs.Message.{at_first, inside, one_more, all_blocks, squeezed_is}
use Rattle.sha3.proofs.sponge.Goals as goal

pub loop-i-init : goal.loop-i-init
loop-i-init c = at_first _ _

pub loop-i-preserved : goal.loop-i-preserved
loop-i-preserved c =
    let l = c.loop-i in
    let r = c.args.rate in
    let m = c.args.m.now in
    one_more r m l.s _ _ l.i (inside r (length m) l.i (omega arith) c.loop-i-test.true) l.invariant c.whole_block-d.ensures c.absorb-v.ensures

pub returns : goal.returns
returns c =
    let l = c.loop-i in
    let r = c.args.rate in
    let m = c.args.m.now in
    let at = length m / r * r in
    let n : l.i ≡ length m / r = omega arith in
    let h : at ≤ length m = omega arith in
    let k : length m - at < r = omega arith in
    c.digest.ensures
    ∙ squeezed_is r 32 m _ (omega arith) c.requires.0
    (all_blocks r m l.s _ _ at (length m / r) refl h k (rw (← n) l.invariant) c.last_block-d.ensures c.absorb.ensures)
