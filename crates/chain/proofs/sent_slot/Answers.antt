-- `chain::sent_slot` meets its contract: the sub-frame is below 2 ^ 33.
use Prim.Native.Nat.{◌<◌, ◌^◌}
use native.Mathlib.Omega.{arith}
use borrow.Author.Rules.{rules}
use Rattle.times.proofs.Times.{seconds_bound, subframe_bound}
use Rattle.rules.specs.Chain as S
use Rattle.chain.proofs.sent_slot.Goals as goal
use Rattle.chain.proofs.sent_slot.Goals.{After-subframe_at-s}

-- the sub-frame's number
early : (c : After-subframe_at-s) → c.subframe_at-s.result < 2 ^ 33
early c =
    let g = c.args in
    let h = seconds_bound g.g (search rules) in
    omega (arith, c.subframe_at-s.ensures, subframe_bound g.c.root c.seconds_of.result, c.seconds_of.ensures)

pub slot_of-requires : goal.slot_of-requires
slot_of-requires c = (search rules, (search rules, (early (goal.at.slot_of-requires c).After-subframe_at-s, search rules)))

pub returns : goal.returns
unfolding S.sent_slot
returns c = rw (c.slot_of.ensures, c.subframe_at-s.ensures, c.seconds_of.ensures)
