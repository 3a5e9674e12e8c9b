-- `sha256::with_length` meets its contract: the number of bits is written in eight bytes.
use Rattle.std.proofs.Common.{◌∙◌}
use Rattle.laws.proofs.Numbers.{length-be8}
use Rattle.laws.proofs.Splice.{lent}
use Rattle.sha256.proofs.Written.{be8_is}
use Rattle.sha256.proofs.with_length.Goals as goal

pub returns : goal.returns
returns c =
    let e = c.copy_from_slice.ensures.after ∙ c.to_be_bytes.ensures ∙ be8_is _ in
    rw e (lent c.args.d 56 8 _ (length-be8 _))
