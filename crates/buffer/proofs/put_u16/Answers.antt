-- `buffer::put_u16` meets its contract: the part that was lent has come back as the bytes of x.
use mathlib.Core.Path.{refl, ◌∙◌}
use Rattle.laws.specs.Bytes.{be2}
use Rattle.buffer.proofs.Library.{put_part}
use Rattle.buffer.proofs.put_u16.Goals as goal

pub returns : goal.returns
unfolding be2
returns c = put_part _ _ 2 _ _ (c.copy_from_slice.ensures.after ∙ c.to_be_bytes.ensures) refl
