-- `replay_records::replay_record` meets its contract: the answers and their lines.
use borrow.Author.Rules.{rules}
use native.Mathlib.Omega.{arith}
use Rattle.replay_records.proofs.Lines.{record_written}
use Rattle.replay_records.proofs.Records.{given_few, room_for}
use Rattle.replay_records.proofs.replay_record.Goals as goal

-- the count is a record's
pub put_lines-requires : goal.put_lines-requires
put_lines-requires c =
    room_for _ _ _ c.requires.0 (given_few _ _ _ _ _ _ c.answer-a.ensures).0 (search rules)

pub returns : goal.returns
returns c =
    let a = c.answer-a.ensures in
    let l = c.put_lines.ensures in
    record {
      place_after = record_written _ _ _ _ _ _ _ _ _ _ a l.0 l.1.0;
      upper_bound = omega (arith, (given_few _ _ _ _ _ _ a).0, l.1.1);
    }
