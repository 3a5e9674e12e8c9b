-- `due_tag_keys::entry_slot` meets its contract: the slot is the definition's own.
use Rattle.due_tag_keys.specs.Outcomes.{entry_slot}
use Rattle.due_tag_keys.proofs.entry_slot.Goals as goal

pub returns : goal.returns
unfolding entry_slot
returns c = rw (c.key_slot.ensures, c.entry_tag-t.ensures)
