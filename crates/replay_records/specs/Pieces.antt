-- An input that is read in pieces: whole records, and a last piece of any length. `PiecesJoin` says that it is read as the whole input.
use Rattle.std.specs.Prelude.{◌≡◌, List, [], ◌∷◌, ◌++◌, ℕ, ◌*◌, length}
use Rattle.rules.specs.Replay.{Replay, Replayed, replayed_up_to, record_count, record_length, unread}
use Rattle.rules.specs.Replay as Rules

-- q is read after p
abbrev pub followed : Replayed → Replayed → Replayed
followed p q = record { lines = p.lines ++ q.lines; next = q.next }

-- all records of a piece
abbrev pub piece_read : Replay → List ℕ → Replayed
piece_read s piece = replayed_up_to s piece (record_count piece)

-- pieces, and a last one, one after the other
abbrev pub read_in_pieces : Replay → List (List ℕ) → List ℕ → Replayed
read_in_pieces s [] last = piece_read s last
read_in_pieces s (p ∷ ps) last = followed (piece_read s p) (read_in_pieces (piece_read s p).next ps last)

abbrev pub joined : List (List ℕ) → List ℕ → List ℕ
joined [] last = last
joined (p ∷ ps) last = p ++ joined ps last

-- each piece is whole records
abbrev pub Whole : List (List ℕ) → Type 0
Whole [] = Unit {0}
Whole (p ∷ ps) = (length p ≡ record_count p * record_length) × Whole ps

-- the lines of the pieces are those of the whole input
abbrev pub PiecesJoin : Type 0
PiecesJoin = (ps : List (List ℕ)) (last : List ℕ) → Whole ps → (read_in_pieces unread ps last).lines ≡ Rules.replay (joined ps last)
