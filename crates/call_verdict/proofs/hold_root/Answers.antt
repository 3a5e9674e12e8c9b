-- `call_verdict::hold_root` meets its contract: the three regions are those of the rule.
use mathlib.Core.Path.{sym, ap, ◌∙◌}
use Rattle.rules.specs.State.{Tesla, waiting_count}
use Rattle.call_verdict.proofs.Effects.{root_held_lem}
use Rattle.call_verdict.proofs.hold_root.Goals as goal

pub returns : goal.returns
returns c =
    λ s m e t.
    let w = c.keep_tags-kept.ensures s m e (ap (λ (x : Tesla). x.waiting) t) (ap (λ (x : Tesla). waiting_count x.numbers) t ∙ sym c.waiting_count-n.ensures.0) in
    root_held_lem s _ _ _ _ _ _ _ _ t c.put_numbers.ensures c.put_root.ensures w.0 w.1
