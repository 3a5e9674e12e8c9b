-- What stands in the slice, and what is kept, is that of the records so far; what is left are those behind them.
use Rattle.std.proofs.Common.{◌≡◌, ◌*◌, length, drop}
use Rattle.std.specs.Slice.Iter.{chunks_rest, chunks_size}
use Rattle.rules.specs.Replay.{record_length}
use Rattle.replay_records.specs.Kept.{replay_of}
use Rattle.replay_records.proofs.Pieces.{Read}
use Rattle.replay_records.proofs.replay_piece.Given as goal

abbrev pub invariant-loop-bytes : goal.invariant-loop-bytes
invariant-loop-bytes l =
    record {
      rest : chunks_rest l.bytes-iterator ≡ drop (length l.yielded * record_length) l.input;
      size : chunks_size l.bytes-iterator ≡ record_length;
      read : Read l.initial.out (replay_of l.initial.replay) l.input (length l.yielded) l.filled l.out (replay_of l.replay);
    }
