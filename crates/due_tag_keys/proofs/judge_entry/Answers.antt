-- `due_tag_keys::judge_entry` meets its contract: the test is the definition's own.
use mathlib.Core.Path.{◌∙◌}
use Rattle.rules.specs.Chain.{key_of_slot}
use Rattle.rules.specs.Tags.{entry_at}
use Rattle.due_tag_keys.specs.Outcomes.{entry_slot, match_outcome}
use Rattle.due_tag_keys.proofs.Falling.{judged_number, matches_is}
use Rattle.due_tag_keys.proofs.judge_entry.Goals as goal

pub returns : goal.returns
unfolding match_outcome
returns c h e =
    let g = c.args in
    let x = entry_at g.waiting.now g.k in
    let r = matches_is g.c h x c.copy_set.new.out c.entry_tag-t.result c.tag_matches-matches.result c.entry_tag-t.ensures c.copy_set.ensures
    (c.tag_matches-matches.ensures (key_of_slot g.c h (entry_slot g.c x)) e) in
    judged_number c.judged.result c.tag_matches-matches.result c.judged.ensures ∙ rw r
