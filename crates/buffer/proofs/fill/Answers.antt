-- `buffer::fill` meets its contract: the part that was lent has come back as n times x.
use mathlib.Core.Path.{ap, ◌∙◌}
use Prim.Native.Nat.{ℕ}
use native.Mathlib.Omega.{arith}
use lib.ListN.{length-replicate, length-take, length-drop, replicate}
use Rattle.buffer.proofs.Library.{put_part}
use Rattle.buffer.proofs.fill.Goals as goal

pub returns : goal.returns
returns c =
    let g = c.args in
    put_part _ g.at g.n _ _
    (c.fill.ensures.after (λ y h. h) ∙ ap (λ (k : ℕ). replicate k g.x) (simp (length-take, length-drop) (omega arith)))
    (length-replicate g.n g.x)
