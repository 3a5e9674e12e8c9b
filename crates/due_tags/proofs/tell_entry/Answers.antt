-- `due_tags::tell_entry` meets its contract: the tag and the set are the entry's.
use Rattle.due_tags.proofs.tell_entry.Goals as goal

pub returns : goal.returns
returns c =
    rw (← c.copy_set.ensures, ← c.entry_tag-t.ensures, ← c.outcome_number-found.ensures) c.tell.ensures
