-- `cmac::laws_of_truncation` carries the laws of a truncated code in its contract. Assumes nothing.
use Rattle.cmac.proofs.Truncation.{length-truncated, bit-truncated}
use Rattle.cmac.proofs.laws_of_truncation.Goals as goal

pub returns : goal.returns
returns c = record { length-truncated = length-truncated; bit-truncated = bit-truncated }
