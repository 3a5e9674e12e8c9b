-- Lanes that the code keeps inverted from round to round, which the standard does not have: a round goes from `masked s` to
-- `masked (steps s k)`, and χ then inverts five lanes and not 25. Only the contracts of inner functions cite this file.
use Rattle.std.specs.Prelude.{ℕ, List, set, replicate}
use Rattle.sha3.specs.Sha3.{ones, added, θ, ρ, π}

-- the lanes 1, 2, 8, 12, 17 and 20
unfoldable pub mask : List ℕ
mask = set (set (set (set (set (set (replicate 25 0) 1 ones) 2 ones) 8 ones) 12 ones) 17 ones) 20 ones

unfoldable pub masked : List ℕ → List ℕ
masked s = added s mask

-- what the mask has become before χ
unfoldable pub moved_mask : List ℕ
moved_mask = π (ρ (θ mask))
