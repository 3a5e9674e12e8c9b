-- `gather::with_mark` meets its contract: a mark that is not there fits.
use mathlib.Core.Path.{sym, ◌∙◌, ◌≡◌}
use native.Mathlib.Omega.{arith}
use Prim.Native.Nat.{◌*◌, ◌%◌, ◌^◌}
use native.Mathlib.Nat.{one-mul}
use lib.Pow.{shl_exact}
use Rattle.gather.proofs.Counts.{mark_fits}
use Rattle.rules.specs.Gather as Rule
use borrow.Author.Rules.{rules}
use Rattle.gather.proofs.with_mark.Goals as goal
use Rattle.gather.proofs.with_mark.Goals.{Else-marked}

bit : (c : Else-marked) → 1 * 2 ^ c.args.k % 65536 ≡ 2 ^ c.args.k
bit c = shl_exact 1 c.args.k 16 (omega arith) (omega arith) ∙ one-mul _

pub returns-then-marked : goal.returns-then-marked
unfolding Rule.with_mark
returns-then-marked c = rw (← c.marked.ensures, c.if-marked.true)

pub overflow_add-result : goal.overflow_add-result
overflow_add-result c = rw (bit (goal.at.overflow_add-result c).Else-marked) (record { fits = mark_fits _ _ (search rules) c.requires (sym c.marked.ensures ∙ c.if-marked.false) })

pub returns-else-marked : goal.returns-else-marked
unfolding Rule.with_mark
returns-else-marked c = rw (bit (goal.at.returns-else-marked c).Else-marked, ← c.marked.ensures, c.if-marked.false)
