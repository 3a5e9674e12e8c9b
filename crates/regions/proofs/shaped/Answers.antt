-- `regions::shaped` meets its contract: the tests of the sixteen lengths, one after the other.
use Rattle.std.proofs.Common.{rules}
use Rattle.rules.specs.State.{shaped}
use Rattle.regions.proofs.shaped.Goals as goal

pub returns-else-sets-eq-SETS_LENGTH : goal.returns-else-sets-eq-SETS_LENGTH
unfolding shaped
returns-else-sets-eq-SETS_LENGTH c = search rules depth 40
