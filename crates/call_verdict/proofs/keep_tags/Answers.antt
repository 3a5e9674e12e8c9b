-- `call_verdict::keep_tags` meets its contract: no tag stays but on the same chain.
use mathlib.Core.Path.{sym, ◌∙◌}
use Rattle.call_verdict.proofs.Effects.{new_chain, same_chain, none_stay, some_stay}
use Rattle.call_verdict.proofs.keep_tags.Goals as goal

pub returns-else-chain_stays : goal.returns-else-chain_stays
returns-else-chain_stays c = λ s m e w k. none_stay _ _ (new_chain s _ (sym (c.chain_stays.ensures s m e) ∙ c.if-chain_stays.false))

pub returns-then-chain_stays : goal.returns-then-chain_stays
returns-then-chain_stays c =
    λ s m e w k.
    some_stay _ _ _ _ _
    (same_chain s _ (sym (c.chain_stays.ensures s m e) ∙ c.if-chain_stays.true) ∙ rw (w, k, ← c.root_seconds.ensures))
    c.keep_staying.ensures.0
    c.keep_staying.ensures.1.0
