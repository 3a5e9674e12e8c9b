-- `chain::key_slot` meets its contract: it is the tag's slot.
use borrow.Author.Rules.{rules}
use Rattle.rules.specs.Chain as S
use Rattle.chain.proofs.key_slot.Goals as goal

pub returns : goal.returns
unfolding S.key_slot
returns c = search rules
