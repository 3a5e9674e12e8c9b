-- `tag_codes::tag_matches` meets its contract: the message is the tag's.
use Rattle.tag_codes.proofs.tag_matches.Goals as goal

pub returns : goal.returns
returns c k e =
    let g = c.args in
    rw (c.tag_code.ensures k g.t g.set.now e c.tag_message.ensures)
