-- `gather::take_out` meets its contract: each return is the case of the mark of block 0 and of the count.
use Rattle.rules.specs.Gather as Rule
use Rattle.rules.proofs.Bounds.{total_bound, total_least}
use mathlib.Core.Path.{sym, ◌∙◌}
use native.Mathlib.Omega.{arith}
use Prim.Native.Nat.{◌≤◌}
use lib.Count.{ones-le}
use borrow.Author.Rules.{rules}
use lib.ListN.{get_or}
use Rattle.gather.proofs.Counts.{marked_counts}
use Rattle.gather.proofs.Stores.{without_first, not-counted, counted}
use Rattle.gather.proofs.take_out.Goals as goal
use Rattle.gather.proofs.take_out.Goals.{After-total_of-total, Else-m-total}

total : (c : After-total_of-total) → c.total_of-total.result ≤ 16
total c = rw c.total_of-total.ensures (total_bound _)

least : (c : Else-m-total) → 7 ≤ c.total_of-total.result
least c =
    let m = marked_counts _ (sym c.marked.ensures ∙ c.if-not-marked.false) in
    let h : 1 ≤ c.total_of-total.result = rw c.if-m-total.false at m in
    rw c.total_of-total.ensures (total_least _ (rw c.total_of-total.ensures at h))

pub returns-then-not-marked : goal.returns-then-not-marked
returns-then-not-marked c = ((λ h t. without_first _ _ (sym c.marked.ensures ∙ c.if-not-marked.true)), tt)

pub overflow_cast-m : goal.overflow_cast-m
overflow_cast-m c = omega (arith, ones-le 16 (get_or c.args.present.now c.args.id 0) (search rules))

pub returns-then-m-total : goal.returns-then-m-total
returns-then-m-total c = ((λ h t. not-counted _ _ _ (sym c.marked.ensures ∙ c.if-not-marked.false) c.total_of-total.ensures c.if-m-total.true), tt)

pub overflow_mul-result : goal.overflow_mul-result
overflow_mul-result c = omega (arith, total (goal.at.overflow_mul-result c).After-total_of-total)

pub returns : goal.returns
unfolding Rule.once_taken_out
returns c =
    ((λ h t. counted _ _ _ (sym c.marked.ensures ∙ c.if-not-marked.false) c.total_of-total.ensures c.if-m-total.false), (omega (arith, least (goal.at.returns c).Else-m-total), omega (arith, total (goal.at.returns c).After-total_of-total)))
