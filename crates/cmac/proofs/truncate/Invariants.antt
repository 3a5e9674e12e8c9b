-- `cmac::truncate` meets its contract: after i turns the first i bytes are stored.
use mathlib.Core.Path.{◌≡◌}
use lib.ListN.{length, take}
use Rattle.cmac.specs.Cmac as S
use Rattle.cmac.proofs.truncate.Given as goal

abbrev pub invariant-loop-i : goal.invariant-loop-i
invariant-loop-i l = (length l.d ≡ 16) × (take l.i l.d ≡ take l.i (S.truncated l.n l.code))
