-- `nav_sets::put_u64` meets its contract: the part that was lent has come back as the bytes of x.
use mathlib.Core.Path.{◌∙◌}
use Rattle.laws.proofs.Numbers.{length-be8}
use Rattle.buffer.proofs.Library.{put_part}
use Rattle.nav_sets.proofs.Bytes.{be8_is}
use Rattle.nav_sets.proofs.put_u64.Goals as goal

pub returns : goal.returns
returns c =
    let x = c.args.x in
    put_part _ _ 8 _ _ (c.copy_from_slice.ensures.after ∙ c.to_be_bytes.ensures ∙ be8_is x) (length-be8 x)
