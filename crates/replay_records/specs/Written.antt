-- Records of the replay program's input into a lent slice: `written` is what `replay_record` gives of one, and `replay_piece` of a piece of the input.
-- The abbreviation writes what the functions give from numbers and lent memory at exit.
use Rattle.std.specs.Prelude.{List, ℕ, length}
use Rattle.laws.specs.Lists.{splice}
use Rattle.rules.specs.Replay.{Replay, Replayed}

-- how many bytes of lines stand at the front of the lent slice, the slice, and what is kept for the next record
pub record Written : Type 0 where
  pub count : ℕ
  pub out : List ℕ
  pub next : Replay

abbrev pub wrote : ℕ → List ℕ → Replay → Written
wrote count out next = record { count = count; out = out; next = next }

-- lines from the front of the slice, and nothing else of it changed
unfoldable pub written : List ℕ → Replayed → Written
written out p = wrote (length p.lines) (splice out 0 p.lines) p.next

-- room for the lines of any record: 84 bytes for the first, 25 for each of 270 tag records
abbrev pub room : ℕ
room = 6834

-- the last place that 64 bits hold
abbrev pub last_place : ℕ
last_place = 18446744073709551615
