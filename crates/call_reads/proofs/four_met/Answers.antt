-- `call_reads::four_met` meets its contract: after i turns that did not end the scan, at most three of the first i satellites count.
use mathlib.Core.Path.{refl, ◌∙◌}
use borrow.Author.Rules.{rules}
use native.Mathlib.Omega.{arith}
use Rattle.rules.specs.Four.{recent_count}
use Rattle.call_reads.proofs.Scan.{counted, passed, not_noted, too_few, enough}
use Rattle.call_reads.proofs.four_met.Goals as goal
use Rattle.call_reads.proofs.four_met.Goals.{then-recent+else-met-eq3, else-recent}

pub last_subframe-clock-requires : goal.last_subframe-clock-requires
last_subframe-clock-requires c = search rules

pub returns-then-clock-eq0 : goal.returns-then-clock-eq0
returns-then-clock-eq0 c =
    let g = c.args in
    let clock = c.last_subframe-clock in
    λ s. not_noted s g.clocks.now g.arrivals.now g.limit clock.result clock.ensures c.if-clock-eq0.true

pub loop-i-init : goal.loop-i-init
unfolding recent_count
loop-i-init c = (omega arith, (omega arith, refl))

pub bounds-arrivals-i : goal.bounds-arrivals-i
bounds-arrivals-i c = search rules

pub loop-i-preserved : goal.loop-i-preserved
loop-i-preserved c =
    let l = c.loop-i in
    let g = c.args in
    let clock = c.last_subframe-clock.result in
    let is = c.recent.ensures clock c.seconds_of-last.ensures in (
      omega arith,
      elim c.if-recent.branch [
        | then-recent+else-met-eq3 w ↦ (omega (arith, l.invariant.1.0, w.if-met-eq3.false, w.met-is), w.met-is ∙ counted clock g.limit g.arrivals.now l.i l.met l.invariant.1.1 (rw w.if-recent.true at is))
        | else-recent w ↦ (omega (arith, l.invariant.1.0, w.met-is), w.met-is ∙ passed clock g.limit g.arrivals.now l.i l.met l.invariant.1.1 (rw w.if-recent.false at is))
      ],
    )

-- the scan's end
pub returns-then-i-eq36 : goal.returns-then-i-eq36
returns-then-i-eq36 c =
    let l = c.loop-i in
    let g = c.args in
    let clock = c.last_subframe-clock in
    λ s.
    too_few s g.clocks.now g.arrivals.now g.limit clock.result clock.ensures c.if-clock-eq0.false l.met l.invariant.1.0
    (rw c.if-i-eq36.true at l.invariant.1.1)

-- the fourth
pub returns-then-met-eq3 : goal.returns-then-met-eq3
returns-then-met-eq3 c =
    let l = c.loop-i in
    let g = c.args in
    let clock = c.last_subframe-clock in
    let is = rw c.if-recent.true at (c.recent.ensures clock.result c.seconds_of-last.ensures) in
    λ s.
    enough s g.clocks.now g.arrivals.now g.limit clock.result clock.ensures c.if-clock-eq0.false l.i (omega arith)
    (rw c.if-met-eq3.true at (counted clock.result g.limit g.arrivals.now l.i l.met l.invariant.1.1 is))
