-- `times::gst_of` meets its contract: the low 32 bits of week and second.
use Rattle.rules.specs.Times as S
use mathlib.Core.Path.{sym}
use native.Mathlib.Omega.{arith}
use Rattle.times.proofs.Times.{gst_low}
use Rattle.times.proofs.gst_of.Goals as goal

pub returns : goal.returns
unfolding S.gst_of S.gst
returns c = sym (gst_low _ _ (omega arith))
