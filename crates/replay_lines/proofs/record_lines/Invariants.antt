-- After k turns the lines of k tag records are written.
use Rattle.std.proofs.Common.{◌≡◌}
use Rattle.laws.specs.Lists.{splice}
use Rattle.rules.specs.Replay.{record_lines}
use Rattle.replay_lines.proofs.record_lines.Given as goal

abbrev pub invariant-loop-k : goal.invariant-loop-k
invariant-loop-k l = l.out ≡ splice l.initial.out l.at (record_lines l.area l.k)
