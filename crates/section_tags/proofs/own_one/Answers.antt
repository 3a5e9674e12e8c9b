-- `section_tags::own_one` meets its contract: the tag is the field's, and it is judged by the words and the set of its satellite.
use Rattle.rules.specs.Outcomes.{outcome_number}
use Rattle.navdata.specs.Pieces.{nav}
use Rattle.tags.specs.Layout.{section_of}
use Rattle.tag_records.specs.Told.{start}
use Rattle.section_outcomes.proofs.Keys.{tag_block, tag_key_lem}
use Rattle.section_tags.proofs.Fields.{one_judged}
use Rattle.section_tags.proofs.own_one.Goals as goal

pub returns : goal.returns
returns c h k f =
    let g = c.args in
    let x = section_of g.x in
    let tag = c.own_tag-t.result in
    let is = c.own_tag-t.ensures in
    let e = one_judged g.config.now (nav g.words.now g.stamps.now) g.c h x g.j g.fits (start g.count g.sets.now g.arrivals.now)
    c.heard-p.result (outcome_number c.outcome_of-outcome.result) c.set_of-set.result tag is f c.set_of-set.ensures c.heard-p.ensures.1
    (c.outcome_of-outcome.ensures.1 h (tag_key_lem g.c h x g.j tag g.key.now is k) (tag_block g.c x g.j tag is)) in
    rw (← e) c.settle.ensures
