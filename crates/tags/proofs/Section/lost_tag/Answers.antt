-- `tags::Section::lost_tag` meets its contract: each part is the definition's own.
use mathlib.Core.Path.{refl}
use native.Mathlib.Omega.{arith}
use borrow.Author.Tests.{eq-eqb, ne_eqb}
use Rattle.rules.specs.Received.{lost_tag}
use Prim.Native.Nat.{◌+◌}
use Rattle.rules.specs.Mack.{field_at}
use Rattle.rules.specs.Tags.{own_tag}
use Rattle.received.proofs.Cases.{item_shown, shown_lt}
use Rattle.tags.proofs.Section.lost_tag.Goals as goal

pub returns-then-j-eq0 : goal.returns-then-j-eq0
unfolding lost_tag own_tag
returns-then-j-eq0 c = rw (c.own_tag-whole.ensures, eq-eqb c.args.j 0 c.if-j-eq0.true) refl

pub overflow_cast-prn : goal.overflow_cast-prn
overflow_cast-prn c =
    let g = c.args in
    rw (c.unwrap_or-prn.ensures, c.prn_item.ensures, item_shown) (omega (arith, shown_lt g.self.mack.now g.self.marks (field_at g.c g.j + g.c.ms) 8))

pub overflow_cast-adkd : goal.overflow_cast-adkd
overflow_cast-adkd c =
    let g = c.args in
    rw (c.unwrap_or-adkd.ensures, c.adkd_item.ensures, item_shown) (omega (arith, shown_lt g.self.mack.now g.self.marks (field_at g.c g.j + g.c.ms + 8) 4))

pub returns : goal.returns
unfolding lost_tag own_tag
returns c =
    rw (
      c.own_tag-whole.ensures,
      ne_eqb c.args.j 0 c.if-j-eq0.false,
      c.unwrap_or-adkd.ensures,
      c.adkd_item.ensures,
      item_shown,
      c.unwrap_or-prn.ensures,
      c.prn_item.ensures,
      item_shown,
    )
    refl
