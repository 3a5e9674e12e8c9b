-- `buffer::copy_at` meets its contract: the first i bytes of `src` are spliced in.
use mathlib.Core.Path.{◌≡◌}
use lib.ListN.{take}
use Rattle.laws.specs.Lists.{splice}
use Rattle.buffer.proofs.copy_at.Given as goal

abbrev pub invariant-loop-i : goal.invariant-loop-i
invariant-loop-i l = l.dst ≡ splice l.initial.dst l.at (take l.i l.src)
