-- `tag_records::tell` meets its contract: the record is that of the outcome, and the outcome and the sets are the definition's own.
use Rattle.rules.specs.Tags.{told}
use Rattle.tag_records.specs.Told.{start}
use Rattle.tag_records.proofs.Told.{told_leaves}
use Rattle.tag_records.proofs.tell.Goals as goal

pub returns : goal.returns
returns c =
    let g = c.args in
    told_leaves (told g.ms g.found g.t g.set.now (start 0 g.sets.now g.arrivals.now)) g.t g.set.now g.area.now
    c.record_outcome-outcome.new.sets c.record_outcome-outcome.new.arrivals c.put_record.new.area c.record_outcome-outcome.result g.at c.record_issue-issue.result
    c.record_outcome-outcome.ensures c.record_issue-issue.ensures c.put_record.ensures
