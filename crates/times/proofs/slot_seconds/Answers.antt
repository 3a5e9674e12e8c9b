-- `times::slot_seconds` meets its contract: the divisor is above 0 and the quotient at most the slot.
use Rattle.rules.specs.Times as S
use native.Mathlib.Omega.{arith}
use Prim.Native.Nat.{◌-◌, ◌*◌, ◌/◌, ◌<◌, ◌≤◌}
use borrow.Author.Tests.{eq-eqb, ne_eqb}
use Rattle.times.proofs.Times.{slot_quotient}
use borrow.Author.Rules.{rules}
use Rattle.times.proofs.slot_seconds.Goals as goal
use Rattle.times.proofs.slot_seconds.Goals.{Start}

parts : (c : Start) → (c.args.ns * c.args.nmack ≤ 108) × ((0 < c.args.ns * c.args.nmack) × ((c.args.m - 1) / (c.args.ns * c.args.nmack) ≤ c.args.m))
parts c = slot_quotient c.args.ns c.args.nmack c.args.root c.args.m (search rules) (search rules) (search rules) (search rules)

pub returns-then-m-eq0 : goal.returns-then-m-eq0
unfolding S.slot_seconds
returns-then-m-eq0 c = rw (eq-eqb _ _ c.if-m-eq0.true) c.saturating_sub.ensures

pub overflow_mul-result : goal.overflow_mul-result
overflow_mul-result c = omega (arith, parts (goal.at.overflow_mul-result c).Start)

pub nonzero_div-result : goal.nonzero_div-result
nonzero_div-result c = (parts (goal.at.nonzero_div-result c).Start).1.0

pub overflow_mul-result-2 : goal.overflow_mul-result-2
overflow_mul-result-2 c = omega (arith, parts (goal.at.overflow_mul-result-2 c).Start)

pub overflow_add-result : goal.overflow_add-result
overflow_add-result c = omega (arith, parts (goal.at.overflow_add-result c).Start)

pub returns : goal.returns
unfolding S.slot_seconds
returns c = rw (ne_eqb _ _ c.if-m-eq0.false)
