-- `call_verdict::renew` meets its contract: contents in force stay, others are put in force.
use mathlib.Core.Path.{sym, ap}
use Rattle.authentic_sets.specs.Regions.{auth}
use Rattle.call_verdict.proofs.renew.Goals as goal

pub returns-then-same_contents : goal.returns-then-same_contents
returns-then-same_contents c = λ s m e t a. rw (← (c.same_contents.ensures s m e), c.if-same_contents.true) ((sym e, sym t), ap (auth s.auth.sets) (sym a))

pub returns : goal.returns
returns c =
    λ s m e t a.
    rw (← (c.same_contents.ensures s m e), c.if-same_contents.false) ((c.put_in_force.ensures, c.hold_root.ensures s m e t), c.keep_candidates.ensures s m e a)
