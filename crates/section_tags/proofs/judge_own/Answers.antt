-- `section_tags::judge_own` meets its contract: after j turns the regions hold the work of the first j fields.
use mathlib.Core.Path.{◌≡◌, ap, ◌∙◌}
use Prim.Native.Nat.{ℕ, ◌*◌, ◌/◌}
use native.Mathlib.Omega.{arith}
use borrow.Author.Rules.{rules}
use lib.ListN.{take}
use Rattle.rules.specs.Chain.{held}
use Rattle.navdata.specs.Pieces.{nav}
use Rattle.tags.specs.Layout.{section}
use Rattle.tag_records.specs.Told.{start}
use Rattle.section_outcomes.specs.Outcomes.{block_key}
use Rattle.section_outcomes.proofs.Keys.{next-block, macseq_is}
use Rattle.section_tags.proofs.Fields.{none_judged, next_judged}
use Rattle.section_tags.proofs.judge_own.Goals as goal

pub loop-j-init : goal.loop-j-init
loop-j-init c =
    let g = c.args in (
      c.block_key.ensures,
      none_judged g.config.now (nav g.words.now g.stamps.now) g.c (held g.slot (take g.c.width g.known)) (section g.prn g.time g.status g.mack.now)
          g.waiting.now g.sets.now g.arrivals.now g.area.now g.marks g.count g.at c.requires.1.1.0,
    )

pub loop-j-preserved : goal.loop-j-preserved
loop-j-preserved c =
    let p = c.field_one-kept in
    let l = c.loop-j in
    let g = c.args in
    let h = held g.slot (take g.c.width g.known) in
    let x = section g.prn g.time g.status g.mack.now in (
      c.next_key.ensures ∙ ap (λ (c : ℕ). block_key g.c h g.time (c / g.c.fields)) (next-block l.j),
      next_judged g.config.now (nav g.words.now g.stamps.now) g.c h x g.waiting.now g.area.now l.waiting l.sets l.arrivals l.area
          c.field_one-kept.new.waiting c.field_one-kept.new.sets c.field_one-kept.new.arrivals c.field_one-kept.new.area
          g.marks g.count g.at l.j l.kept p.result (start g.count g.sets.now g.arrivals.now)
          (omega (arith, c.requires.1.1.1, c.loop-j-test.true)) (search rules) (search rules) l.invariant.1.0 l.invariant.1.1
          (p.ensures h c.next_key.ensures
          (macseq_is g.config.now g.c h x _ c.macseq_fits-fits.result c.block_key.ensures (λ v e. c.macseq_fits-fits.ensures v g.status e))
          c.macseq_came-macseq.ensures),
    )

pub returns : goal.returns
returns c =
    let l = c.loop-j in
    let g = c.args in
    let h : l.j ≡ g.c.nmack * g.c.fields = omega arith in
    rw (← h) l.invariant.1
