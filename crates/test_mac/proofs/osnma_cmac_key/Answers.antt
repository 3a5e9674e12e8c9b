-- `test_mac::osnma_cmac_key` meets its contract: the refusal, and the result.
use mathlib.Core.Path.{sym, ◌∙◌}
use Rattle.test_mac.specs.Calls.{cmac_key_call}
use Rattle.test_mac.proofs.osnma_cmac_key.Goals as goal

pub returns-then-no_key : goal.returns-then-no_key
unfolding cmac_key_call
returns-then-no_key c = simp (sym c.no_key.ensures ∙ c.if-no_key.true)

pub returns : goal.returns
unfolding cmac_key_call
returns c = simp (sym c.no_key.ensures ∙ c.if-no_key.false, c.cmac_key.ensures)
