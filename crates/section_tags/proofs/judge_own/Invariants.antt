-- `section_tags::judge_own` meets its contract: after j turns the regions hold the work of the first j fields.
use mathlib.Core.Path.{◌≡◌}
use Prim.Native.Nat.{◌-◌, ◌/◌}
use lib.ListN.{take}
use Rattle.rules.specs.Chain.{held}
use Rattle.rules.specs.Received.{fields_judged}
use Rattle.navdata.specs.Pieces.{nav}
use Rattle.tags.specs.Layout.{section}
use Rattle.tag_records.specs.Told.{start, Leaves}
use Rattle.section_outcomes.specs.Outcomes.{block_key}
use Rattle.section_tags.specs.Own.{Grows}
use Rattle.section_tags.proofs.judge_own.Given as goal

abbrev pub invariant-loop-j : goal.invariant-loop-j
invariant-loop-j l = (l.key ≡ block_key l.c (held l.slot (take l.c.width l.known)) l.time ((l.j - 1) / l.c.fields))
    × (Leaves (fields_judged l.config (nav l.words l.stamps) l.c (held l.slot (take l.c.width l.known)) (section l.prn l.time l.status l.mack) l.marks l.j (start l.count l.initial.sets l.initial.arrivals)) l.count l.at l.initial.waiting l.initial.area l.waiting l.sets l.arrivals l.area l.kept
    × Grows (fields_judged l.config (nav l.words l.stamps) l.c (held l.slot (take l.c.width l.known)) (section l.prn l.time l.status l.mack) l.marks l.j (start l.count l.initial.sets l.initial.arrivals)) l.count l.j l.kept)
