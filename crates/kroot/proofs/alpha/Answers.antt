-- `kroot::alpha` meets its contract: six bytes, one by one.
use native.Mathlib.Omega.{arith}
use Rattle.kroot.proofs.Parameters.{six}
use Rattle.rules.specs.Kroot as S
use Rattle.kroot.proofs.alpha.Goals as goal

pub returns : goal.returns
unfolding S.alpha_of
returns c = six c.args.c.now 6 (omega arith)
