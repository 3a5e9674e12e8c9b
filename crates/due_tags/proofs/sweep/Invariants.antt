-- `due_tags::sweep` meets its contract: after k turns the regions hold the work of the first k entries.
use Rattle.tag_records.specs.Told.{start, Leaves, Counts}
use Rattle.due_tags.specs.Swept.{swept}
use Rattle.due_tags.proofs.sweep.Given as goal

abbrev pub invariant-loop-k : goal.invariant-loop-k
invariant-loop-k l =
    Leaves (swept l.ms l.outcomes l.initial.waiting l.k (start 0 l.initial.sets l.initial.arrivals)) 0 0 l.initial.waiting l.initial.area l.waiting l.sets l.arrivals l.area l.kept
    × Counts (swept l.ms l.outcomes l.initial.waiting l.k (start 0 l.initial.sets l.initial.arrivals)) l.k l.kept
