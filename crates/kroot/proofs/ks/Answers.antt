-- `kroot::ks` meets its contract: a field inside one byte.
use mathlib.Core.Path.{sym}
use native.Mathlib.Omega.{arith}
use Rattle.bitfields.proofs.Fields.{bits_in_byte}
use Rattle.rules.specs.Kroot as S
use Rattle.kroot.proofs.ks.Goals as goal

pub returns : goal.returns
unfolding S.ks_of
returns c = sym (bits_in_byte c.args.c.now 1 0 4 (omega arith))
