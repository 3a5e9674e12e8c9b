-- `bitfields::number` meets its contract: so far v is the number in the bytes that came.
use mathlib.Core.Path.{◌≡◌}
use Prim.Native.Nat.{◌*◌}
use Rattle.rules.specs.Bits.{bits}
use Rattle.bitfields.proofs.number.Given as goal

abbrev pub invariant-loop-b : goal.invariant-loop-b
invariant-loop-b l = l.v ≡ bits l.s (8 * l.first) (8 * l.b-index)
