-- After i turns the digits of i bytes are written.
use Rattle.std.proofs.Common.{◌≡◌}
use Rattle.laws.specs.Lists.{part, splice}
use Rattle.rules.specs.Replay.{hexadecimal}
use Rattle.replay_lines.proofs.record_line.Given as goal

abbrev pub invariant-loop-i : goal.invariant-loop-i
invariant-loop-i l = l.out ≡ splice l.initial.out l.at (hexadecimal (part l.fn.area l.from l.i))
