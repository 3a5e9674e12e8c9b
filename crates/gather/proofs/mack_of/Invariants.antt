-- `gather::mack_of` meets its contract: after i turns the first bytes are those of i fields.
use mathlib.Core.Path.{◌≡◌}
use Prim.Native.Nat.{◌*◌}
use lib.ListN.{length, take}
use Rattle.rules.specs.Gather as Rule
use Rattle.gather.proofs.mack_of.Given as goal

abbrev pub invariant-loop-i : goal.invariant-loop-i
invariant-loop-i l = (length l.mack ≡ 60) × (take (4 * l.i) l.mack ≡ Rule.mack_of l.f l.i)
