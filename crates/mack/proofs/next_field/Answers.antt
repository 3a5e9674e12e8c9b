-- `mack::next_field` meets its contract: a field stands at the place that the rules compute, and so does the next.
use mathlib.Core.Path.{◌≡◌, refl}
use Prim.Native.Nat.{◌+◌, ◌%◌, ◌^◌, ◌≤◌, ◌<◌}
use native.Mathlib.Omega.{arith}
use native.Mathlib.Nat.{mod-lt}
use borrow.Author.Rules.{rules}
use Rattle.rules.specs.Mack as S
use Rattle.mack.proofs.Places.{some_field, field_inside, end_inside, next_in_block, next-block}
use Rattle.mack.proofs.next_field.Goals as goal
use Rattle.mack.proofs.next_field.Goals.{Else-j-fields, Start}

some : (c : Start) → 1 ≤ c.args.c.fields
some c = some_field c.args.c c.requires.0 c.args.j c.requires.1.1

pub take_field-f-requires : goal.take_field-f-requires
take_field-f-requires c =
    (rw c.requires.1.0 (field_inside c.args.c c.requires.0 c.args.j c.requires.1.1), c.requires.0.ms_high)

pub nonzero_rem-j : goal.nonzero_rem-j
nonzero_rem-j c = some (goal.at.nonzero_rem-j c).Start

fields-small : (c : Start) → c.args.c.fields < 2 ^ 64
fields-small c = search rules

pub overflow_add-j : goal.overflow_add-j
overflow_add-j c =
    omega (arith, mod-lt c.args.j (some (goal.at.overflow_add-j c).Start), fields-small (goal.at.overflow_add-j c).Start)

pub returns-then-j-fields : goal.returns-then-j-fields
unfolding S.field_tag S.field_info
returns-then-j-fields c =
    rw (c.take_field-f.ensures, c.requires.1.0, next_in_block c.args.c c.args.j c.if-j-fields.true) refl

-- the fields of the block are all taken
last : (c : Else-j-fields) → c.args.j % c.args.c.fields + 1 ≡ c.args.c.fields
last c =
    omega (arith, c.if-j-fields.false, mod-lt c.args.j (some_field c.args.c c.requires.0 c.args.j c.requires.1.1))

pub overflow_add-result : goal.overflow_add-result
overflow_add-result c =
    let e = end_inside c.args.c c.requires.0 c.args.j c.requires.1.1 (last (goal.at.overflow_add-result c).Else-j-fields) in
    rw (c.take_field-f.ensures, c.rest_bits.ensures, c.requires.1.0) (omega (arith, e))

pub returns : goal.returns
unfolding S.field_tag S.field_info
returns c =
    rw (c.rest_bits.ensures, c.take_field-f.ensures, c.requires.1.0, next-block c.args.c c.args.j c.requires.0 (last (goal.at.returns c).Else-j-fields)) refl
