-- `pkr::new_type` meets its contract: the high half of the byte.
use Rattle.pkr.proofs.Pkr.{type_is}
use Rattle.pkr.proofs.new_type.Goals as goal

pub returns : goal.returns
returns c = rw c.new_head.ensures (type_is c.args.d.now)
