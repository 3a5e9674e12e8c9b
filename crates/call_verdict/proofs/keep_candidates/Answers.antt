-- `call_verdict::keep_candidates` meets its contract: no candidate stays but on the same chain.
use mathlib.Core.Path.{sym, ap, ◌∙◌}
use mathlib.Core.List.{List}
use Prim.Native.Nat.{ℕ}
use Rattle.rules.specs.Candidates.{candidates_cleared}
use Rattle.authentic_sets.specs.Regions.{auth}
use Rattle.call_verdict.proofs.Effects.{candidates_stay, candidates_go}
use Rattle.call_verdict.proofs.keep_candidates.Goals as goal

pub returns-else-not-chain_stays : goal.returns-else-not-chain_stays
returns-else-not-chain_stays c = λ s m e a. ap (auth s.auth.sets) (sym a) ∙ candidates_stay s _ (sym (c.chain_stays.ensures s m e) ∙ c.if-not-chain_stays.false)

pub returns-then-not-chain_stays : goal.returns-then-not-chain_stays
returns-then-not-chain_stays c =
    λ s m e a.
    c.clear_candidates.ensures s.auth.sets
    ∙ ap (λ (x : List ℕ). candidates_cleared (auth s.auth.sets x)) (sym a)
    ∙ candidates_go s _ (sym (c.chain_stays.ensures s m e) ∙ c.if-not-chain_stays.true)
