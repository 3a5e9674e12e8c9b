-- `mack_half::hold` meets its contract: both numbers are written, and all 32 bytes.
use mathlib.Core.Path.{◌≡◌, ◌∙◌}
use native.Mathlib.Omega.{arith}
use lib.ListN.{length}
use borrow.Author.Rules.{rules}
use Rattle.laws.proofs.Splice.{splice_whole}
use Rattle.laws.proofs.Splice.{two_set}
use Rattle.mack_half.proofs.hold.Goals as goal
use Rattle.mack_half.proofs.hold.Goals.{Start}

-- a key by value has 32 bytes
long : (c : Start) → length c.args.key ≡ 32
long c = search rules

pub returns : goal.returns
returns c =
    let g = c.args in (
      two_set g.numbers.now g.slot g.kept (search rules),
      c.copy_at.ensures ∙ splice_whole g.heldkey.now g.key (omega (arith, long (goal.at.returns c).Start)),
    )
