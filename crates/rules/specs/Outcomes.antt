-- 01's numbers of the tag outcomes ("Tag outcomes"), and 02's (P3). 9 is not among them: a tag that agrees is 1 here, and `told` makes it 1 or 9 (P4).
use Rattle.std.specs.Prelude.{ℕ}
use Rattle.rules.specs.declared.Outcome.{Outcome}
use Rattle.rules.specs.declared.Outcome.TheVariants.{Agrees, Wrong, NoUsableSet, NotAllowed, Waits, SequenceUnfit, NoPlace, Lost}

-- what a tag is found to be, as `told` takes it
abbrev pub outcome_number : Outcome → ℕ
outcome_number Agrees = 1
outcome_number Wrong = 2
outcome_number NoUsableSet = 3
outcome_number NotAllowed = 4
outcome_number Waits = 5
outcome_number SequenceUnfit = 6
outcome_number NoPlace = 7
outcome_number Lost = 8
