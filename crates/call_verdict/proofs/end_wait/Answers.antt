-- `call_verdict::end_wait` meets its contract: zeros are no message.
use native.Mathlib.Omega.{arith}
use mathlib.Core.Path.{◌∙◌}
use Rattle.call_verdict.proofs.Regions.{wiped}
use Rattle.call_verdict.proofs.end_wait.Goals as goal

pub returns : goal.returns
returns c = c.fill.ensures ∙ wiped c.args.offer.now (omega arith)
