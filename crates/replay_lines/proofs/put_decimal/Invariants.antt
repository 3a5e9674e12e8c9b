-- `replay_lines::put_decimal` meets its contract: the digits are written from the last to the first, then copied.
use Rattle.replay_lines.proofs.Decimal.{Spelt}
use Rattle.replay_lines.proofs.put_decimal.Given as goal

abbrev pub invariant-loop-rest : goal.invariant-loop-rest
invariant-loop-rest l = Spelt l.n l.text l.i l.rest

abbrev pub decreases-loop-rest : goal.decreases-loop-rest
decreases-loop-rest l = l.rest
