-- `sha3::sha3_of` meets its contract: of the sponge it gives the first bytes.
use Rattle.std.proofs.Common.{◌∙◌, arith}
use Rattle.sha3.proofs.Message.{shorter}
use Rattle.sha3.proofs.sha3_of.Goals as goal

pub returns : goal.returns
returns g c = c.copy_from_slice.ensures.after ∙ rw c.sponge-d.ensures (shorter _ 32 _ _ (omega arith) (omega arith) (omega arith))
