-- `due_tag_keys::judge_down` meets its contract: the key of slot m is walked down to, and its tags are judged with it.
use mathlib.Core.Path.{ap, ◌∙◌}
use Rattle.mac.specs.Kept.{kept_of}
use borrow.Author.Rules.{rules}
use Rattle.due_tag_keys.proofs.Falling.{key-after}
use Rattle.due_tag_keys.proofs.judge_down.Goals as goal

pub returns : goal.returns
returns c =
    let g = c.args in
    let out = c.key_of_slot.new.key in
    λ h p e.
    let q = key-after g.c h g.at g.m g.key.now out c.requires.0.0.width_fits (search rules) c.requires.1.1.0 p e c.key_of_slot.ensures in
    (q, c.judge_slot.ensures h (c.keep_key.ensures ∙ ap (kept_of g.c.mf) q))
