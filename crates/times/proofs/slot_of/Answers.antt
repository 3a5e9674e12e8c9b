-- `times::slot_of` meets its contract: each product is bounded by those of the largest operands.
use Rattle.rules.specs.Times as S
use native.Mathlib.Omega.{arith}
use Prim.Native.Nat.{◌-◌, ◌*◌, ◌<◌, ◌^◌}
use native.Mathlib.Nat.{mod-lt}
use Rattle.times.proofs.Times.{slot_products}
use borrow.Author.Rules.{rules}
use Rattle.times.proofs.slot_of.Goals as goal
use Rattle.times.proofs.slot_of.Goals.{Start}

prods : (c : Start) → (c.args.s * c.args.ns < 2 ^ 39) × ((c.args.s * c.args.ns * c.args.nmack < 2 ^ 40) × ((c.args.b - 1) * c.args.ns < 2 ^ 14))
prods c = slot_products c.args.ns c.args.nmack c.args.s c.args.b (search rules) (search rules) (search rules) (search rules)

pub overflow_mul-result : goal.overflow_mul-result
overflow_mul-result c = omega (arith, prods (goal.at.overflow_mul-result c).Start)

pub overflow_mul-result-2 : goal.overflow_mul-result-2
overflow_mul-result-2 c = omega (arith, prods (goal.at.overflow_mul-result-2 c).Start)

pub overflow_mul-result-3 : goal.overflow_mul-result-3
overflow_mul-result-3 c = rw c.saturating_sub.ensures (omega (arith, prods (goal.at.overflow_mul-result-3 c).Start))

pub overflow_add-result : goal.overflow_add-result
overflow_add-result c = rw c.saturating_sub.ensures (omega (arith, prods (goal.at.overflow_add-result c).Start))

pub overflow_add-result-2 : goal.overflow_add-result-2
overflow_add-result-2 c = rw c.saturating_sub.ensures (omega (arith, prods (goal.at.overflow_add-result-2 c).Start, mod-lt c.saturating_sub-2.result c.requires.0.0))

pub overflow_add-result-3 : goal.overflow_add-result-3
overflow_add-result-3 c = rw c.saturating_sub.ensures (omega (arith, prods (goal.at.overflow_add-result-3 c).Start, mod-lt c.saturating_sub-2.result c.requires.0.0))

pub returns : goal.returns
unfolding S.slot_of
returns c = rw (c.saturating_sub.ensures, c.saturating_sub-2.ensures)
