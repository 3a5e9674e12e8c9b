-- `due_tags::sweep` meets its contract: after k turns the regions hold the work of the first k entries.
use mathlib.Core.Path.{◌≡◌}
use native.Mathlib.Omega.{arith}
use Rattle.tag_records.specs.Told.{start}
use Rattle.due_tags.proofs.Arrival.{none_swept, one_swept}
use borrow.Author.Rules.{rules}
use Rattle.due_tags.proofs.sweep.Goals as goal

pub loop-k-init : goal.loop-k-init
loop-k-init c =
    let g = c.args in
    none_swept g.ms g.outcomes.now g.waiting.now g.sets.now g.arrivals.now g.area.now

pub sweep_one-kept-requires : goal.sweep_one-kept-requires
sweep_one-kept-requires c = (c.loop-k.invariant.1.few, (omega (arith, c.requires.0), c.requires.1))

pub loop-k-preserved : goal.loop-k-preserved
loop-k-preserved c =
    let l = c.loop-k in
    let g = c.args in
    let p = c.sweep_one-kept in
    one_swept g.ms g.outcomes.now g.waiting.now g.area.now l.waiting l.sets l.arrivals l.area
    p.new.waiting p.new.sets p.new.arrivals p.new.area
    l.k l.kept p.result (start 0 g.sets.now g.arrivals.now)
    (omega (arith, c.requires)) (omega (arith, c.requires)) (search rules) (search rules) l.invariant.0 l.invariant.1 p.ensures

pub returns : goal.returns
returns c =
    let l = c.loop-k in
    let h : l.k ≡ c.args.n = omega arith in
    rw (← h) l.invariant
