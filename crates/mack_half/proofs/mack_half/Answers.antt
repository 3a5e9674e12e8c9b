-- `mack_half::mack_half` meets its contract: 17, row 11, or the section is judged.
use mathlib.Core.Path.{◌≡◌, sym, ◌∙◌}
use mathlib.Core.Bool.{true}
use native.Mathlib.Omega.{arith}
use Rattle.rules.specs.Received.{field_came}
use Rattle.authentic_sets.specs.Regions.{auth}
use Rattle.mack_half.specs.Half.{tesla}
use Rattle.mack_half.proofs.Sections.{unjudged, missing, refused}
use Rattle.mack_half.proofs.mack_half.Goals as goal
use Rattle.mack_half.proofs.mack_half.Goals.{Else-not-field_came}

pub returns-then-not-field_came : goal.returns-then-not-field_came
returns-then-not-field_came c =
    let g = c.args in (
      λ s ec en eh et ea.
          rw (unjudged s (tesla g.numbers.now g.heldkey.now g.waiting.now) (auth g.sets.now g.arrivals.now) et ea)
          (missing s g.prn g.time g.marks g.header g.mack.now g.area.now (sym c.field_came.ensures ∙ c.if-not-field_came.true)),
      omega arith,
    )

-- the first field came
came : (c : Else-not-field_came) → field_came c.args.marks 0 ≡ true
came c = sym c.field_came.ensures ∙ c.if-not-field_came.false

pub returns-then-section_unfit : goal.returns-then-section_unfit
returns-then-section_unfit c =
    let g = c.args in (
      λ s ec en eh et ea.
          rw (unjudged s (tesla g.numbers.now g.heldkey.now g.waiting.now) (auth g.sets.now g.arrivals.now) et ea)
          (refused s g.prn g.time g.marks g.header g.mack.now g.area.now (came (goal.at.returns-then-section_unfit c).Else-not-field_came) (sym (c.section_unfit.ensures.0 s ec eh) ∙ c.if-section_unfit.true)),
      omega arith,
    )

pub judge_section-requires : goal.judge_section-requires
judge_section-requires c = c.section_unfit.ensures.1 c.if-section_unfit.false

pub returns : goal.returns
returns c = (
  λ s ec en eh et ea. c.judge_section.ensures.0 s ec en eh et ea (came (goal.at.returns c).Else-not-field_came) (sym (c.section_unfit.ensures.0 s ec eh) ∙ c.if-section_unfit.false),
  c.judge_section.ensures.1,
)
