-- `section_tags::field_one` meets its contract: a lost field has its record alone, any other is judged.
use mathlib.Core.Path.{refl, sym, ◌∙◌}
use Rattle.navdata.specs.Pieces.{nav}
use Rattle.tags.specs.Layout.{section_of}
use Rattle.tag_records.specs.Told.{start}
use Rattle.section_tags.proofs.Fields.{lost_judged, own_judged_lem}
use Rattle.section_tags.proofs.field_one.Goals as goal

pub returns-then-field_lost : goal.returns-then-field_lost
returns-then-field_lost c h k f m =
    let g = c.args in
    let x = section_of g.x in
    let w = start g.count g.sets.now g.arrivals.now in
    let e = lost_judged g.config.now (nav g.words.now g.stamps.now) g.c h x g.x.marks g.j w 8 c.lost_tag-t.result _
    refl c.lost_tag-t.ensures (sym (c.field_lost.ensures m) ∙ c.if-field_lost.true) in
    rw (← e) c.settle.ensures

pub returns : goal.returns
returns c h k f m =
    let g = c.args in
    let x = section_of g.x in
    let w = start g.count g.sets.now g.arrivals.now in
    let e = own_judged_lem g.config.now (nav g.words.now g.stamps.now) g.c h x g.x.marks g.j w (sym (c.field_lost.ensures m) ∙ c.if-field_lost.false) in
    rw e (c.own_one.ensures h k f)
