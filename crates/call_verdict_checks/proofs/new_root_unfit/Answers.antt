-- `call_verdict_checks::new_root_unfit` meets its contract: the NMA status is 1 or 2 past the other cases.
use native.Mathlib.Omega.{arith}
use borrow.Author.Rules.{rules}
use Rattle.call_verdict_checks.proofs.Tests.{root_put}
use Rattle.call_verdict_checks.proofs.new_root_unfit.Goals as goal

pub returns-in_default : goal.returns-in_default
returns-in_default c =
    let g = c.args in
    let e = c.status_of.ensures in
    λ s m k. root_put s g.header _ _ (search rules) (λ n. absurd (grind (arith, e, n, c.in_default))) (λ n. absurd (grind (arith, e, n, c.in_default))) (c.root_unfit.ensures s m k)
