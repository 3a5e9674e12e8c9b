-- `cmac::padded` meets its contract: a block with padding, or a complete one.
use Rattle.cmac.proofs.Steps.{padded_complete, padded_partial}
use Rattle.cmac.proofs.padded.Goals as goal

pub returns-then-rest-lt16 : goal.returns-then-rest-lt16
returns-then-rest-lt16 c = padded_partial _ _ c.copy_at.ensures c.if-rest-lt16.true

pub returns-else-rest-lt16 : goal.returns-else-rest-lt16
returns-else-rest-lt16 c = padded_complete _ _ c.copy_at.ensures c.requires c.if-rest-lt16.false
