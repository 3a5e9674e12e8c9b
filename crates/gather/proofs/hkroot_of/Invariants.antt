-- `gather::hkroot_of` meets its contract: after i turns the first bytes are those of i fields.
use mathlib.Core.Path.{◌≡◌}
use lib.ListN.{length, take}
use Rattle.rules.specs.Gather as Rule
use Rattle.gather.proofs.hkroot_of.Given as goal

abbrev pub invariant-loop-i : goal.invariant-loop-i
invariant-loop-i l = (length l.hk ≡ 15) × (take l.i l.hk ≡ Rule.hkroot_of l.f l.i)
