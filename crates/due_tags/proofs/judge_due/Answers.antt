-- `due_tags::judge_due` meets its contract: a sweep by the outcomes under the held key.
use lib.ListN.{take}
use Rattle.rules.specs.Chain.{held}
use Rattle.tag_records.specs.Told.{start}
use Rattle.due_tags.proofs.Judged.{all_judged}
use Rattle.due_tags.proofs.judge_due.Goals as goal

pub returns : goal.returns
returns c =
    let g = c.args in
    let h = held g.slot (take g.c.width g.known) in
    rw (← (all_judged g.c h g.waiting.now c.outcomes-outcomes.result (start 0 g.sets.now g.arrivals.now) g.n c.outcomes-outcomes.ensures)) c.sweep.ensures
