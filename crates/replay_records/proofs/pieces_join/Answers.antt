-- `replay_records::pieces_join` meets its contract. Assumes nothing.
use Rattle.replay_records.proofs.Pieces.{pieces_joined}
use Rattle.replay_records.proofs.pieces_join.Goals as goal

pub returns : goal.returns
returns c = pieces_joined
