-- `times::tag_slot` meets its contract: the key's sub-frame is below 2 ^ 33.
use Rattle.rules.specs.Times as S
use native.Mathlib.Omega.{arith}
use Prim.Native.Nat.{◌<◌, ◌^◌}
use Rattle.times.proofs.Times.{key_bound, subframe_bound}
use borrow.Author.Rules.{rules}
use Rattle.times.proofs.tag_slot.Goals as goal
use Rattle.times.proofs.tag_slot.Goals.{After-subframe_at-subframe}

slots : (c : After-subframe_at-subframe) → c.subframe_at-subframe.result < 2 ^ 33
slots c =
    let g = c.args in
    let h = key_bound g.g g.adkd (search rules) in
    omega (arith, c.subframe_at-subframe.ensures, subframe_bound g.root c.key_seconds.result, c.key_seconds.ensures)

pub lowest_slot-requires : goal.lowest_slot-requires
lowest_slot-requires c = (search rules, (search rules, (omega (arith, slots (goal.at.lowest_slot-requires c).After-subframe_at-subframe), search rules)))

pub returns : goal.returns
unfolding S.tag_slot
returns c = rw (c.lowest_slot.ensures, c.from.ensures, c.subframe_at-subframe.ensures, c.key_seconds.ensures)
