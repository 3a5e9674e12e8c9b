-- `cmac::subkey` meets its contract: a complete block, or another.
use borrow.Author.Tests.{eq-eqb, ne_eqb}
use Rattle.laws.specs.Lists.{part}
use Rattle.cmac.proofs.subkey.Goals as goal

pub returns-then-n-eq16 : goal.returns-then-n-eq16
unfolding part
returns-then-n-eq16 c = rw (eq-eqb _ _ c.if-n-eq16.true)

pub returns-else-n-eq16 : goal.returns-else-n-eq16
unfolding part
returns-else-n-eq16 c = rw (ne_eqb _ _ c.if-n-eq16.false)
