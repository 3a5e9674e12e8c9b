-- `hkroot_half::renewed` meets its contract: what the tree's leaf says of the message, and the stop.
use Rattle.std.proofs.lemmas.Result.{err_from_is_err_and}
use Rattle.laws.specs.Lists.{part}
use Rattle.rules.specs.State.{tree_root}
use Rattle.hkroot_half.proofs.renewed.Goals as goal

pub returns-in_err-pkr_judge : goal.returns-in_err-pkr_judge
unfolding tree_root part
returns-in_err-pkr_judge c =
    let p = err_from_is_err_and c.from_residual.result c.from_residual.ensures.1 in
    let e = c.in_err-pkr_judge.ensures in
    rw (p.1, p.2) ((e.0, e.1.0), (e.1.1, rw (← e.1.0)))

pub returns-in-Held : goal.returns-in-Held
unfolding tree_root part
returns-in-Held c = let e = rw c.in-Held.is at c.in_ok-pkr_judge.ensures in ((e.0, e.1.0), (e.1.1, rw (← e.1.0)))

pub returns-in-Stops : goal.returns-in-Stops
unfolding tree_root part
returns-in-Stops c = let e = rw c.in-Stops.is at c.in_ok-pkr_judge.ensures in ((e.0, e.1.0), (e.1.1, rw (← e.1.0) c.stop.ensures))
