-- `sha3::put_lane` meets its contract: the bytes are the definition's own.
use Rattle.std.proofs.Common.{◌≡◌, ◌+◌, ◌-◌, refl, ◌∙◌, arith}
use Rattle.laws.proofs.Splice.{lent}
use Rattle.sha3.specs.Sha3 as S
use Rattle.sha3.proofs.put_lane.Goals as goal

pub returns : goal.returns
unfolding S.lane_bytes
returns c =
    let e = c.copy_from_slice.ensures.after ∙ c.to_le_bytes.ensures in
    let at = c.args.at in
    let f : at + 8 - at ≡ 8 = omega arith in
    rw (e, f) (lent c.args.d.now at 8 _ refl)
