-- `bitfields::bytes_to` meets its contract: after i turns the first i bytes are spliced in.
use mathlib.Core.Path.{◌≡◌}
use Rattle.laws.specs.Lists.{splice}
use Rattle.rules.specs.Bits.{bytes_at}
use Rattle.bitfields.proofs.bytes_to.Given as goal

abbrev pub invariant-loop-i : goal.invariant-loop-i
invariant-loop-i l = l.out ≡ splice l.initial.out l.to (bytes_at l.s l.at l.i)
