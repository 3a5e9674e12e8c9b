-- `tag_records::put_record` meets its contract: the twelve bytes are the definition's own.
use Rattle.laws.specs.Bytes.{be2, be4}
use Rattle.rules.specs.Tags.{tag_record}
use Rattle.tag_records.proofs.put_record.Goals as goal

pub returns : goal.returns
unfolding tag_record be2 be4
returns c =
    rw (c.to_be_bytes-issue.ensures, c.to_be_bytes-time.ensures) at c.copy_at.ensures
