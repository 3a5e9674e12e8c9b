-- Pieces of at most 16 records: room for their lines, and places for all of them. Assumes nothing.
use mathlib.Core.Path.{◌≡◌}
use mathlib.Core.List.{List}
use Prim.Native.Nat.{ℕ, ◌+◌, ◌*◌, ◌≤◌, ◌<◌}
use native.Mathlib.Omega.{arith}
use lib.ListN.{length, take, length-take}
use Rattle.rules.specs.Replay.{record_count}
use Rattle.replay_records.specs.Written.{room, last_place}
use Rattle.replay_records.proofs.Pieces.{count_few}

-- what was read is no longer than what it was read into
pub part_short : (l : List ℕ) (n m : ℕ) → length l ≡ m → m ≤ 4096 → length (take n l) ≤ 4096
part_short l n m e h = simp length-take (omega arith)

module _ (piece : List ℕ) (place pieces : ℕ) (short : length piece ≤ 4096) (few : place ≤ pieces * 16) where
  pub piece_fits : pieces < 1152921504606846975 → (out room₀ : ℕ) → out ≡ room₀ → 109344 ≤ room₀
      → (record_count piece * room ≤ out) × (place + record_count piece ≤ last_place)
  piece_fits on out room₀ e h = let f = count_few piece short in (omega arith, omega arith)

  pub places_few : (place' : ℕ) → place' ≡ place + record_count piece → place' ≤ (pieces + 1) * 16
  places_few place' e = let f = count_few piece short in omega arith
