-- `section_outcomes::prompt_match` meets its contract: a tag with delay has another key.
use mathlib.Core.Path.{sym, ◌∙◌}
use Rattle.section_outcomes.proofs.Keys.{prompt_matches}
use Rattle.section_outcomes.proofs.prompt_match.Goals as goal

pub returns-then-delay_of-eq0 : goal.returns-then-delay_of-eq0
returns-then-delay_of-eq0 c h k b =
    let g = c.args in
    prompt_matches g.c h g.key.now g.first g.t g.set.now c.tag_matches.result (sym c.delay_of.ensures ∙ c.if-delay_of-eq0.true) k b c.tag_matches.ensures
