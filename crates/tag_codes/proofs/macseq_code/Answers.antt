-- `tag_codes::macseq_code` meets its contract: what is lent are the first n bytes.
use Rattle.tag_codes.proofs.macseq_code.Goals as goal

pub returns : goal.returns
returns c k e = c.mac_bits.ensures k e
