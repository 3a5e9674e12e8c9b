-- `pkr::new_id` meets its contract: the low half of the byte.
use Rattle.pkr.proofs.Pkr.{id_is}
use Rattle.pkr.proofs.new_id.Goals as goal

pub returns : goal.returns
returns c = rw c.new_head.ensures (id_is c.args.d.now)
