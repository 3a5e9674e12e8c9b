-- `public_keys::above_all` meets its contract: none of the IDs below the next is held.
use mathlib.Core.Path.{◌≡◌}
use mathlib.Core.Bool.{false}
use Prim.Native.Nat.{◌-◌}
use Rattle.rules.specs.PublicKeys as S
use Rattle.public_keys.proofs.above_all.Given as goal

abbrev pub invariant-loop-n : goal.invariant-loop-n
invariant-loop-n l = S.held_among l.pubkeys l.id (l.n - l.id) ≡ false
