-- `section_outcomes::outcome_of` meets its contract: the tests are the rule's, in its order.
use mathlib.Core.Path.{◌≡◌, sym, ◌∙◌}
use mathlib.Core.Bool.{not, ◌&&◌}
use lib.Dec.{eqb, ltb}
use borrow.Author.Tests.{ltb-true}
use Rattle.section_outcomes.proofs.Tests.{waits_free, and_twice}
use Rattle.section_outcomes.proofs.outcome_of.Goals as goal
use Rattle.section_outcomes.proofs.outcome_of.Goals.{then-flexible, else-flexible}

pub returns : goal.returns
returns c =
    let g = c.args in
    let prompt = eqb c.delay_of-prompt.result 0 in
    let unfit : c.if-flexible.unfit ≡ (c.flexible.result && not g.fits) =
    elim c.if-flexible.branch [
      | then-flexible w ↦ rw w.if-flexible.true w.unfit-is
      | else-flexible w ↦ rw w.if-flexible.false (w.unfit-is ∙ w.if-flexible.false)
    ] in
    let e = c.own_outcome.ensures in (
      λ q. ltb-true g.count 256
          (waits_free c.not_allowed-refused.result c.if-flexible.unfit (not c.usable-unusable.result) (prompt && c.prompt_match-matches.result) prompt (ltb g.count 256) (sym e ∙ q)),
      λ h k s. e
          ∙ rw (c.prompt_match-matches.ensures h k s, c.not_allowed-refused.ensures, unfit, c.flexible.ensures, c.usable-unusable.ensures, c.delay_of-prompt.ensures)
          (rw (and_twice)),
    )
