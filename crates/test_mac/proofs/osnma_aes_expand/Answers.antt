-- `test_mac::osnma_aes_expand` meets its contract: the refusals, and the result.
use mathlib.Core.Path.{sym, ◌∙◌}
use lib.ListN.{length}
use borrow.Author.Tests.{eq-eqb, ne_eqb}
use Rattle.test_mac.specs.Calls.{expand_call}
use Rattle.test_mac.proofs.osnma_aes_expand.Goals as goal
use Rattle.test_mac.proofs.osnma_aes_expand.Goals.{then-no_key-via-then-no_key, then-no_key-via-else-no_key+then-out-ne240}

pub returns-then-no_key : goal.returns-then-no_key
unfolding expand_call
returns-then-no_key c =
    elim c.then-no_key.branch [
      | then-no_key-via-then-no_key w ↦ simp (sym c.no_key.ensures ∙ w.if-no_key.true)
      | then-no_key-via-else-no_key+then-out-ne240 w ↦ simp (sym c.no_key.ensures ∙ w.if-no_key.false, ne_eqb (length c.args.out.now) 240 w.if-out-ne240.true)
    ]

pub returns : goal.returns
unfolding expand_call
returns c = simp (sym c.no_key.ensures ∙ c.if-no_key.false, eq-eqb (length c.args.out.now) 240 c.if-out-ne240.false, c.expand_key.ensures)
