-- `test_mac::no_key` meets its contract.
use native.Mathlib.Omega.{arith}
use Rattle.std.proofs.lemmas.Bool.Decides.{nat_tests}
use Rattle.test_mac.specs.Calls.{not_key}
use Rattle.test_mac.proofs.no_key.Goals as goal
use Rattle.test_mac.proofs.no_key.Goals.{in-16, in_default}

pub returns : goal.returns
unfolding not_key
returns c = elim c.match-matches.branch [ in-16 w ↦ grind (arith, nat_tests) | in_default w ↦ grind (arith, nat_tests) ]
