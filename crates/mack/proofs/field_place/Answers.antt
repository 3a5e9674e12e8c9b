-- `mack::field_place` meets its contract: a field ends inside the section, so that no sum wraps.
use mathlib.Core.Path.{◌≡◌}
use Prim.Native.Nat.{◌+◌, ◌*◌, ◌/◌, ◌%◌, ◌≤◌}
use native.Mathlib.Omega.{arith}
use Rattle.rules.specs.Mack as S
use Rattle.mack.proofs.Places.{some_field, field_inside, place_is}
use Rattle.mack.proofs.field_place.Goals as goal
use Rattle.mack.proofs.field_place.Goals.{After-block_bits-block, Start}

some : (c : Start) → 1 ≤ c.args.c.fields
some c = some_field c.args.c c.requires.0 c.args.j c.requires.1

place : (c : After-block_bits-block)
    → c.args.j / c.args.c.fields * c.block_bits-block.result + c.args.j % c.args.c.fields * (c.args.c.ms + 16) ≡ S.field_at c.args.c c.args.j
place c = rw c.block_bits-block.ensures (place_is c.args.c c.args.j)

inside : (c : Start) → S.field_at c.args.c c.args.j ≤ 480
inside c = omega (arith, field_inside c.args.c c.requires.0 c.args.j c.requires.1)

pub overflow_mul-result : goal.overflow_mul-result
overflow_mul-result c = omega (arith, place (goal.at.overflow_mul-result c).After-block_bits-block, inside (goal.at.overflow_mul-result c).Start)

pub overflow_mul-result-2 : goal.overflow_mul-result-2
overflow_mul-result-2 c = omega (arith, place (goal.at.overflow_mul-result-2 c).After-block_bits-block, inside (goal.at.overflow_mul-result-2 c).Start)

pub overflow_add-result : goal.overflow_add-result
overflow_add-result c = omega (arith, place (goal.at.overflow_add-result c).After-block_bits-block, inside (goal.at.overflow_add-result c).Start)

pub nonzero_div-result : goal.nonzero_div-result
nonzero_div-result c = some (goal.at.nonzero_div-result c).Start

pub nonzero_rem-result : goal.nonzero_rem-result
nonzero_rem-result c = some (goal.at.nonzero_rem-result c).Start

pub returns : goal.returns
returns c = place (goal.at.returns c).After-block_bits-block
