-- A record's answers and lines as `written`. Assumes nothing.
use mathlib.Core.Path.{◌≡◌}
use mathlib.Core.List.{List}
use Prim.Native.Nat.{ℕ, ◌+◌}
use lib.ListN.{length}
use Rattle.laws.specs.Lists.{splice}
use Rattle.rules.specs.Replay.{Session, answered, replayed, lines_of}
use Rattle.replay_answers.specs.Answers.{gave}
use Rattle.replay_records.specs.Written.{wrote, written}

module _ (out out' : List ℕ) (s next : Session) (place first second count r : ℕ) (input : List ℕ) where
  pub record_written : gave first second count next ≡ answered s input
      → out' ≡ splice out 0 (lines_of (place + 1) first second count next.area) → r ≡ length (lines_of (place + 1) first second count next.area)
      → wrote r out' (record { session = next; place = place + 1 }) ≡ written out (replayed (record { session = s; place = place }) input)
  unfolding written replayed
  record_written e d f = rw (← e, d, f)
