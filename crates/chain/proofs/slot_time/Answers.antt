-- `chain::slot_time` meets its contract: the seconds of the slot, as a GST_SF.
use Rattle.rules.specs.Chain as S
use Rattle.chain.proofs.slot_time.Goals as goal

pub returns : goal.returns
unfolding S.slot_time
returns c = rw (c.gst_of.ensures, c.slot_seconds.ensures)
