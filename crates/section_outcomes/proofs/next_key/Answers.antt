-- `section_outcomes::next_key` meets its contract: inside a block the key stays.
use mathlib.Core.Path.{ap, ◌∙◌}
use Prim.Native.Nat.{ℕ}
use lib.ListN.{take}
use Rattle.rules.specs.Chain.{held}
use Rattle.section_outcomes.specs.Outcomes.{block_key}
use Rattle.section_outcomes.proofs.Keys.{first_block, same_block}
use Rattle.section_outcomes.proofs.next_key.Goals as goal
use Rattle.section_outcomes.proofs.next_key.Goals.{then-j-eq0-via-then-j-eq0, then-j-eq0-via-else-j-eq0+then-j-fields-ne0}

pub returns-then-j-eq0 : goal.returns-then-j-eq0
returns-then-j-eq0 c =
    let g = c.args in
    c.requires.kept_value
    ∙ ap (λ (b : ℕ). block_key g.c (held g.slot (take g.c.width g.known)) g.time b)
    (elim c.then-j-eq0.branch [
      | then-j-eq0-via-then-j-eq0 w ↦ first_block g.j g.c.fields w.if-j-eq0.true
      | then-j-eq0-via-else-j-eq0+then-j-fields-ne0 w ↦ same_block g.j g.c.fields c.requires.walks.0.1.1.0 w.if-j-fields-ne0.true
    ])
