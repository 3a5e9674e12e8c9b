-- `mack::key_place` meets its contract: a key ends inside the section, so that no sum wraps.
use mathlib.Core.Path.{◌≡◌}
use Prim.Native.Nat.{◌+◌, ◌-◌, ◌*◌, ◌≤◌}
use native.Mathlib.Omega.{arith}
use Rattle.rules.specs.Mack as S
use Rattle.mack.proofs.Places.{key_inside, key_place_is}
use Rattle.mack.proofs.key_place.Goals as goal
use Rattle.mack.proofs.key_place.Goals.{After-block_bits-block, Start}

place : (c : After-block_bits-block)
    → (c.args.b - 1) * c.block_bits-block.result + c.args.c.fields * (c.args.c.ms + 16) ≡ S.key_at c.args.c c.args.b
place c = rw c.block_bits-block.ensures (key_place_is c.args.c c.args.b)

inside : (c : Start) → S.key_at c.args.c c.args.b ≤ 480
inside c = omega (arith, key_inside c.args.c c.requires.0 c.args.b c.requires.1.0 c.requires.1.1)

pub overflow_mul-result : goal.overflow_mul-result
overflow_mul-result c = omega (arith, place (goal.at.overflow_mul-result c).After-block_bits-block, inside (goal.at.overflow_mul-result c).Start)

pub overflow_add-result-2 : goal.overflow_add-result-2
overflow_add-result-2 c =
    omega (arith, place (goal.at.overflow_add-result-2 c).After-block_bits-block, inside (goal.at.overflow_add-result-2 c).Start)

pub returns : goal.returns
returns c = place (goal.at.returns c).After-block_bits-block
