-- `call_reads::progress_of` meets its contract: by the mark of block 0.
use mathlib.Core.Path.{sym, ◌∙◌}
use Prim.Native.Nat.{◌≤◌}
use Rattle.std.proofs.Common.{rules}
use native.Mathlib.Omega.{arith}
use lib.Count.{ones-le}
use lib.ListN.{get_or}
use Rattle.rules.proofs.Bounds.{total_bound}
use Rattle.call_reads.proofs.Pairs.{unknown, counted}
use Rattle.call_reads.proofs.progress_of.Goals as goal
use Rattle.call_reads.proofs.progress_of.Goals.{After-total_of-total}

pub overflow_cast-held : goal.overflow_cast-held
overflow_cast-held c =
    let g = c.args in
    omega (arith, ones-le 16 (get_or g.present.now g.id 0) (search rules))

pub returns-then-not-marked : goal.returns-then-not-marked
returns-then-not-marked c = λ s. unknown _ _ (sym c.marked.ensures ∙ c.if-not-marked.true)

total : (c : After-total_of-total) → c.total_of-total.result ≤ 16
total c = rw c.total_of-total.ensures (total_bound _)

pub overflow_cast-total : goal.overflow_cast-total
overflow_cast-total c = omega (arith, total (goal.at.overflow_cast-total c).After-total_of-total)

pub returns : goal.returns
returns c =
    λ s. counted _ _ _ _ (sym c.marked.ensures ∙ c.if-not-marked.false) c.total_of-total.ensures c.missing_of.ensures
