-- `mack_items::field_item` meets its contract: the bits end inside the section, with the field.
use Prim.Native.Nat.{◌+◌, ◌≤◌}
use native.Mathlib.Omega.{arith}
use Rattle.mack.proofs.Places.{field_inside}
use Rattle.mack_items.proofs.field_item.Goals as goal
use Rattle.mack_items.proofs.field_item.Goals.{After-field_place}

inside : (c : After-field_place) → c.field_place.result + (c.args.c.ms + 16) ≤ 480
inside c =
    rw c.field_place.ensures (field_inside c.args.c c.requires.0.0 c.args.j c.requires.0.1)

pub overflow_add-field_place : goal.overflow_add-field_place
overflow_add-field_place c = omega (arith, inside (goal.at.overflow_add-field_place c).After-field_place)

pub item_at-requires : goal.item_at-requires
item_at-requires c = (omega (arith, inside (goal.at.item_at-requires c).After-field_place), omega arith)

pub returns : goal.returns
returns c = rw (← c.field_place.ensures) c.item_at.ensures
