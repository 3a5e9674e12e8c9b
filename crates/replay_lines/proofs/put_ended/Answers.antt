-- `replay_lines::put_ended` meets its contract: the digits, and the character behind them.
use Rattle.replay_lines.proofs.Joined.{ended_put}
use Rattle.replay_lines.proofs.put_ended.Goals as goal

pub returns : goal.returns
returns c = ended_put _ _ _ _ _ _ c.put_decimal-e.ensures c.requires
