-- `section_lost::flexible_came` meets its contract: of a flexible field the MAC-Info came, or not.
use mathlib.Core.Path.{refl}
use Prim.Native.Nat.{◌+◌}
use Rattle.rules.specs.Mack.{field_at}
use Rattle.rules.specs.Received.{info_came}
use Rattle.section_lost.proofs.Lost.{some_came, none_came}
use Rattle.section_lost.proofs.flexible_came.Goals as goal

pub returns-in_default : goal.returns-in_default
unfolding info_came
returns-in_default c =
    let g = c.args in
    rw (← c.flexible.ensures, c.if-not-flexible.false, none_came g.x.mack.now g.x.marks (field_at g.c g.j + g.c.ms) 16 _ c.info_item.ensures c.in_default.not-Some) refl

pub returns : goal.returns
unfolding info_came
returns c =
    let g = c.args in
    rw (← c.flexible.ensures, c.if-not-flexible.false, some_came g.x.mack.now g.x.marks (field_at g.c g.j + g.c.ms) 16 _ _ c.info_item.ensures c.in-Some.is) refl
