-- `section_tags::settle` meets its contract: a tag that waits takes the next place.
use mathlib.Core.Path.{ap}
use Rattle.rules.specs.Outcomes.{outcome_number}
use Rattle.section_tags.proofs.Fields.{other_number, told_leaves, waits_leaves}
use Rattle.section_tags.proofs.settle.Goals as goal

pub returns-in-Waits : goal.returns-in-Waits
returns-in-Waits c =
    let g = c.args in
    waits_leaves g.ms (outcome_number g.outcome) g.count g.at g.t g.set.now g.waiting.now g.sets.now g.arrivals.now g.area.now
    c.put_entry.new.waiting c.tell.new.sets c.tell.new.arrivals c.tell.new.area (ap outcome_number c.in-Waits.is) (rw (← c.outcome_number-found.ensures) c.tell.ensures) c.put_entry.ensures

pub returns-in_default : goal.returns-in_default
returns-in_default c =
    let g = c.args in
    told_leaves g.ms (outcome_number g.outcome) g.count g.at g.t g.set.now g.waiting.now g.sets.now g.arrivals.now g.area.now
    c.tell.new.sets c.tell.new.arrivals c.tell.new.area (other_number g.outcome c.in_default.not-Waits) (rw (← c.outcome_number-found.ensures) c.tell.ensures)
