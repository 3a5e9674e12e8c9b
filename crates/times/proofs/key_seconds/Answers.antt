-- `times::key_seconds` meets its contract: both parts are bounded, so that the sum fits.
use Rattle.rules.specs.Times as S
use native.Mathlib.Omega.{arith}
use Prim.Native.Nat.{◌≤◌, ◌<◌, ◌^◌}
use Rattle.times.proofs.Times.{seconds_bound, delay_bound}
use borrow.Author.Rules.{rules}
use Rattle.times.proofs.key_seconds.Goals as goal
use Rattle.times.proofs.key_seconds.Goals.{Start}

bounds : (c : Start) → (S.seconds_of c.args.g < 2 ^ 32) × (S.delay_of c.args.adkd ≤ 10)
bounds c = (seconds_bound c.args.g (search rules), delay_bound c.args.adkd)

pub overflow_mul-result : goal.overflow_mul-result
overflow_mul-result c = omega (arith, bounds (goal.at.overflow_mul-result c).Start, c.delay_of.ensures)

pub overflow_add-result : goal.overflow_add-result
overflow_add-result c = omega (arith, bounds (goal.at.overflow_add-result c).Start, c.delay_of.ensures, c.seconds_of.ensures)

pub returns : goal.returns
unfolding S.key_seconds
returns c = rw (c.seconds_of.ensures, c.delay_of.ensures)
