-- `times::time_valid` meets its contract: each return is the case of the first test.
use Rattle.rules.specs.Times as S
use Prim.Native.Nat.{ℕ}
use mathlib.Core.Path.{◌≡◌}
use mathlib.Core.Bool.{true, false}
use lib.Dec.{leb}
use borrow.Author.Tests.{le-leb, lt-leb}
use borrow.Author.Rules.{rules}
use Rattle.laws.proofs.Tests.{and_true}
use Rattle.times.proofs.Times.{week_bound}
use Rattle.times.proofs.time_valid.Goals as goal

pub returns-then-second-le604770 : goal.returns-then-second-le604770
unfolding S.time_valid
returns-then-second-le604770 c =
    let r : ℕ = c.second_of-second.result in
    let h : leb r 604770 ≡ true = le-leb r 604770 c.if-second-le604770.true in
    rw (← c.second_of-second.ensures, h, week_bound c.args.g (search rules), and_true)

pub returns-else-second-le604770 : goal.returns-else-second-le604770
unfolding S.time_valid
returns-else-second-le604770 c =
    let r : ℕ = c.second_of-second.result in
    let h : leb r 604770 ≡ false = lt-leb r 604770 c.if-second-le604770.false in
    rw (← c.second_of-second.ensures, h)
