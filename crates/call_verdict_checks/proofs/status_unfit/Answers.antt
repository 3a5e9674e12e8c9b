-- `call_verdict_checks::status_unfit` meets its contract: the NMA status is 1 or 2 past the other cases.
use native.Mathlib.Omega.{arith}
use borrow.Author.Rules.{rules}
use Rattle.call_verdict_checks.proofs.Tests.{status_put}
use Rattle.call_verdict_checks.proofs.status_unfit.Goals as goal

pub returns-in_default : goal.returns-in_default
returns-in_default c =
    let g = c.args in
    let e = c.status_of.ensures in
    λ s m k.
    rw c.cidkr.ensures
    (status_put s g.header _ _ (search rules) (λ n. absurd (grind (arith, e, n, c.in_default))) (λ n. absurd (grind (arith, e, n, c.in_default))) c.cid_of-in_default.ensures)
