-- `sha3::absorb` meets its contract: before turn i, the first i lanes are sums.
use Rattle.std.proofs.Common.{refl, ap, ◌∙◌, length-set, arith, rules}
use Rattle.sha3.specs.Sha3 as S
use Rattle.sha3.proofs.Written.{one_lane, all_lanes}
use Rattle.sha3.proofs.absorb.Goals as goal

pub loop-i-init : goal.loop-i-init
loop-i-init c = (search rules, refl)

pub loop-i-preserved : goal.loop-i-preserved
loop-i-preserved c =
    let l = c.loop-i in
    (simp length-set l.invariant.0, one_lane _ c.args.b.now l.t l.i _ (search rules) l.invariant.0 l.invariant.1 c.lane_at.ensures)

pub returns : goal.returns
returns c =
    let l = c.loop-i in
    c.permute.ensures ∙ ap S.keccak_f (all_lanes _ c.args.b.now l.t l.i (omega arith) (omega arith) l.invariant.0 l.invariant.1)
