-- `test_leaves::of_chain::slots_fit` meets its contract: the sum is compared without being made.
use mathlib.Core.Path.{sym}
use native.Mathlib.Omega.{arith}
use borrow.Author.Rules.{rules}
use borrow.Author.Tests.{lt-leb}
use Prim.Native.Nat.{◌+◌, ◌^◌}
use Rattle.test_leaves.proofs.Checks.{without_sum}
use Rattle.test_leaves.proofs.of_chain.slots_fit.Goals as goal

pub returns-then-m-gt17179869184 : goal.returns-then-m-gt17179869184
returns-then-m-gt17179869184 c =
    let g = c.args in
    sym (lt-leb (g.m + g.n) (2 ^ 34) (omega arith))

pub returns : goal.returns
returns c =
    let g = c.args in
    without_sum g.n g.m (search rules)
