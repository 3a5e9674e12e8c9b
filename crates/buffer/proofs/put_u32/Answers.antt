-- `buffer::put_u32` meets its contract: the part that was lent has come back as the bytes of x.
use mathlib.Core.Path.{refl, ◌∙◌}
use Rattle.laws.specs.Bytes.{be4}
use Rattle.buffer.proofs.Library.{put_part}
use Rattle.buffer.proofs.put_u32.Goals as goal

pub returns : goal.returns
unfolding be4
returns c = put_part _ _ 4 _ _ (c.copy_from_slice.ensures.after ∙ c.to_be_bytes.ensures) refl
