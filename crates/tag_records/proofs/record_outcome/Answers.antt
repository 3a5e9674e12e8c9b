-- `tag_records::record_outcome` meets its contract: only a tag that agrees and names a satellite goes to the sets.
use mathlib.Core.Path.{sym, ◌∙◌}
use Rattle.tag_records.proofs.Told.{found_other, agrees_nowhere, agrees_there}
use Rattle.tag_records.proofs.record_outcome.Goals as goal

pub returns-then-found-ne1 : goal.returns-then-found-ne1
returns-then-found-ne1 c =
    let g = c.args in
    found_other g.ms g.t g.set.now g.sets.now g.arrivals.now g.found c.if-found-ne1.true

pub returns-then-not-names_satellite : goal.returns-then-not-names_satellite
returns-then-not-names_satellite c =
    let g = c.args in
    rw c.number.ensures
    (agrees_nowhere g.ms g.t g.set.now g.sets.now g.arrivals.now g.found c.if-found-ne1.false (sym c.names_satellite.ensures.0 ∙ c.if-not-names_satellite.true))

pub returns : goal.returns
returns c =
    let g = c.args in
    agrees_there g.ms g.t g.set.now g.sets.now g.arrivals.now g.found c.agree.new.sets c.agree.new.arrivals _
    c.if-found-ne1.false (sym c.names_satellite.ensures.0 ∙ c.if-not-names_satellite.false) (rw c.number-2.ensures c.agree.ensures)
