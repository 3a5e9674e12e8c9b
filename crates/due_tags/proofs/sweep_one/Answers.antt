-- `due_tags::sweep_one` meets its contract: a tag that waits stays.
use Prim.Native.Nat.{◌-◌}
use mathlib.Core.Path.{ap}
use Rattle.rules.specs.Tags.{entry_at}
use Rattle.due_tag_keys.specs.Outcomes.{due_number}
use Rattle.due_tags.proofs.Arrival.{stays_leaves, due_leaves, found_number}
use Rattle.due_tags.proofs.sweep_one.Goals as goal

pub returns-in-Waits : goal.returns-in-Waits
returns-in-Waits c =
    let g = c.args in
    stays_leaves g.ms (due_number g.outcome) (g.k - g.kept) g.kept (entry_at g.waiting.now g.k) g.waiting.now g.sets.now g.arrivals.now g.area.now c.move_entry.new.waiting
    (ap due_number c.in-Waits.is) c.move_entry.ensures

pub returns-in_default : goal.returns-in_default
returns-in_default c =
    let g = c.args in
    let f = found_number g.outcome c.in_default.not-Waits in
    due_leaves g.ms _ (g.k - g.kept) g.kept (entry_at g.waiting.now g.k) g.waiting.now g.sets.now g.arrivals.now g.area.now
    c.tell_entry.new.sets c.tell_entry.new.arrivals c.tell_entry.new.area f.1 (rw f.0 c.tell_entry.ensures)
