-- `call_verdict::put_numbers` meets its contract: both numbers are written.
use native.Mathlib.Omega.{arith}
use Rattle.laws.proofs.Splice.{two_set}
use Rattle.call_verdict.proofs.put_numbers.Goals as goal

pub returns : goal.returns
returns c = two_set c.args.numbers.now 0 c.args.kept (omega arith)
