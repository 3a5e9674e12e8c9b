-- `sha3::end_at` meets its contract: by its test.
use borrow.Author.Tests.{eq-eqb, ne_eqb}
use Rattle.sha3.proofs.end_at.Goals as goal

pub returns-then-rate-n : goal.returns-then-rate-n
returns-then-rate-n c = rw (eq-eqb _ _ c.if-rate-n.true)

pub returns-else-rate-n : goal.returns-else-rate-n
returns-else-rate-n c = rw (ne_eqb _ _ c.if-rate-n.false)
