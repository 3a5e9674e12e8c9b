-- `kroot::hf` meets its contract: a field inside one byte.
use mathlib.Core.Path.{sym}
use native.Mathlib.Omega.{arith}
use Rattle.bitfields.proofs.Fields.{bits_in_byte}
use Rattle.rules.specs.Kroot as S
use Rattle.kroot.proofs.hf.Goals as goal

pub returns : goal.returns
unfolding S.hf_of
returns c = sym (bits_in_byte c.args.c.now 0 4 2 (omega arith))
