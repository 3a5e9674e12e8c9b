-- `replay_lines::put_lines` meets its contract: the first line, then the tag records' behind it.
use Rattle.std.proofs.Common.{refl}
use Rattle.replay_lines.proofs.Hexadecimal.{lines_put}
use Rattle.replay_lines.proofs.put_lines.Goals as goal

pub returns : goal.returns
returns c = lines_put _ _ _ _ _ _ _ _ _ _ _ c.answer_line-at.ensures c.record_lines.ensures refl c.requires.0 c.requires.1
