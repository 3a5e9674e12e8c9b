-- `nav_sets::put_five` meets its contract: the part that was lent has come back as the last five bytes of x.
use mathlib.Core.Path.{ap, ◌∙◌}
use mathlib.Core.List.{List}
use Prim.Native.Nat.{ℕ}
use lib.ListN.{take, drop}
use Rattle.buffer.proofs.Library.{put_part}
use Rattle.nav_sets.proofs.Bytes.{five_is}
use Rattle.nav_sets.proofs.Gathered.{length-five}
use Rattle.nav_sets.proofs.put_five.Goals as goal

pub returns : goal.returns
returns c =
    let x = c.args.x in
    put_part _ _ 5 _ _ (c.copy_from_slice.ensures.after ∙ ap (λ (l : List ℕ). take 5 (drop 3 l)) c.to_be_bytes.ensures ∙ five_is x) (length-five x)
