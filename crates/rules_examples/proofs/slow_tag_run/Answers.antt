-- `rules_examples::slow_tag_run` carries the worked run in its contract. Assumes nothing.
use mathlib.Core.Path.{refl}
use Rattle.rules_examples.proofs.SlowTagFour.{marked, tags_are, old_set_backed}
use Rattle.rules_examples.proofs.SlowTagRun.{slow_tag_marks_old_set}
use Rattle.rules_examples.proofs.slow_tag_run.Goals as goal

pub returns : goal.returns
returns c = record { log_is = slow_tag_marks_old_set; marked = marked; tags_are = tags_are; bits_are = refl; old_set_backed = old_set_backed }
