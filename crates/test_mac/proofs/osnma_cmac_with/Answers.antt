-- `test_mac::osnma_cmac_with` meets its contract: the refusal, and the result.
use mathlib.Core.Path.{◌∙◌}
use lib.ListN.{length}
use borrow.Author.Tests.{eq-eqb, ne_eqb}
use Rattle.test_mac.specs.Calls.{cmac_with_call}
use Rattle.test_mac.proofs.osnma_cmac_with.Goals as goal

pub returns-then-out-ne16 : goal.returns-then-out-ne16
unfolding cmac_with_call
returns-then-out-ne16 c = simp (ne_eqb (length c.args.out.now) 16 c.if-out-ne16.true)

pub returns : goal.returns
unfolding cmac_with_call
returns c = simp (eq-eqb (length c.args.out.now) 16 c.if-out-ne16.false, c.copy_from_slice.ensures.after ∙ c.cmac_with.ensures)
