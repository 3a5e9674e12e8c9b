-- `mack_keys::hold_higher` meets its contract: the key stays, or the sent one takes its place.
use Rattle.mack_keys.proofs.Judged.{hold_old, hold_new}
use Rattle.mack_keys.proofs.hold_higher.Goals as goal

pub returns-then-slot-high : goal.returns-then-slot-high
returns-then-slot-high c =
    let g = c.args in
    hold_old g.c g.high g.slot g.key.now g.sent c.if-slot-high.true

pub returns : goal.returns
returns c =
    let g = c.args in
    hold_new g.c g.high g.slot g.key.now g.sent c.copy_part.new.dst c.if-slot-high.false c.copy_part.ensures
