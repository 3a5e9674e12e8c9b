-- `navdata::status_and_set` meets its contract: after each turn the first k times 8 bytes are spliced in, and `before` holds the eight bytes before the next.
use mathlib.Core.Path.{◌≡◌}
use Prim.Native.Nat.{◌*◌}
use Rattle.laws.specs.Lists.{splice}
use Rattle.rules.specs.Bits.{bits, bytes_at}
use Rattle.navdata.proofs.Status.{stated}
use Rattle.navdata.proofs.status_and_set.Given as goal

abbrev pub invariant-loop-k : goal.invariant-loop-k
invariant-loop-k l =
    (l.before ≡ bits (stated l.status l.set) (8 * (8 * l.k)) 64)
    × (l.out ≡ splice l.initial.out l.to (bytes_at (stated l.status l.set) 62 (8 * l.k)))
