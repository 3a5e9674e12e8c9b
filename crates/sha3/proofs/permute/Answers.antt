-- `sha3::permute` meets its contract: before turn i, 2 * i rounds are done.
use Rattle.std.proofs.Common.{◌≡◌, length, arith, rules}
use Rattle.sha3.proofs.Steps.{no_round, two_more, all-rounds}
use Rattle.sha3.proofs.permute.Goals as goal

pub loop-i-init : goal.loop-i-init
loop-i-init c = no_round _ _ c.masked-s.ensures

pub loop-i-preserved : goal.loop-i-preserved
loop-i-preserved c =
    let l = c.loop-i in
    two_more _ l.s _ _ l.i (omega arith) c.constants-k.ensures l.invariant c.two_rounds-v.ensures

pub returns : goal.returns
returns c =
    let l = c.loop-i in
    let n : length c.args.a ≡ 25 = search rules in
    all-rounds _ _ l.s _ l.i n c.masked-s.ensures (omega arith) l.invariant c.masked.ensures
