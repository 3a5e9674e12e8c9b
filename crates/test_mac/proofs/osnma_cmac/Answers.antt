-- `test_mac::osnma_cmac` meets its contract: the refusals, and the result.
use mathlib.Core.Path.{sym, ◌∙◌}
use lib.ListN.{length}
use borrow.Author.Tests.{eq-eqb, ne_eqb}
use Rattle.test_mac.specs.Calls.{cmac_call}
use Rattle.test_mac.proofs.osnma_cmac.Goals as goal
use Rattle.test_mac.proofs.osnma_cmac.Goals.{then-no_key-via-then-no_key, then-no_key-via-else-no_key+then-out-ne16}

pub returns-then-no_key : goal.returns-then-no_key
unfolding cmac_call
returns-then-no_key c =
    elim c.then-no_key.branch [
      | then-no_key-via-then-no_key w ↦ simp (sym c.no_key.ensures ∙ w.if-no_key.true)
      | then-no_key-via-else-no_key+then-out-ne16 w ↦ simp (sym c.no_key.ensures ∙ w.if-no_key.false, ne_eqb (length c.args.out.now) 16 w.if-out-ne16.true)
    ]

pub returns : goal.returns
unfolding cmac_call
returns c = simp (sym c.no_key.ensures ∙ c.if-no_key.false, eq-eqb (length c.args.out.now) 16 c.if-out-ne16.false, c.copy_from_slice.ensures.after ∙ c.cmac.ensures)
