-- `section_lost::macseq_came` meets its contract: the MAC-Info of the flexible ones of the first j fields came.
use mathlib.Core.Path.{◌≡◌}
use mathlib.Core.Bool.{true}
use Rattle.rules.specs.Received.{flexible_came}
use Rattle.section_lost.proofs.macseq_came.Given as goal

abbrev pub invariant-loop-j : goal.invariant-loop-j
invariant-loop-j l = flexible_came l.config l.c l.x.time l.x.marks l.j ≡ true
