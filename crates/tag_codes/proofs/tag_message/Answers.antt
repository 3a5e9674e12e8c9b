-- `tag_codes::tag_message` meets its contract: all of the lent bytes are replaced.
use native.Mathlib.Omega.{arith}
use Rattle.tag_codes.proofs.Messages.{message_whole}
use Rattle.tag_codes.proofs.tag_message.Goals as goal

pub returns : goal.returns
returns c =
    let g = c.args in
    rw (c.status_and_set.ensures, c.copy_from_slice.ensures.after, c.to_be_bytes.ensures) (message_whole g.out.now g.t g.set.now (omega arith))
