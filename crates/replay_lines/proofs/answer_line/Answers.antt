-- `replay_lines::answer_line` meets its contract: four numbers, each with the character that ends it.
use mathlib.Core.Path.{◌∙◌}
use native.Mathlib.Nat.{zero-add}
use Rattle.replay_lines.proofs.Joined.{line_put}
use Rattle.replay_lines.proofs.answer_line.Goals as goal

pub returns : goal.returns
returns c =
    rw (← c.from.ensures, ← c.from-2.ensures, ← c.from-3.ensures)
    (let p = line_put _ _ _ _ _ _ _ _ _ _ _ _ _ c.put_ended-a.ensures c.put_ended-b.ensures c.put_ended-c.ensures c.put_ended.ensures c.requires in
    (p.is, (p.past ∙ zero-add _, p.few)))
