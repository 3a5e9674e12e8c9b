-- `kroot::maclt_field` meets its contract: a whole byte.
use mathlib.Core.Path.{sym}
use native.Mathlib.Omega.{arith}
use Rattle.bitfields.proofs.Fields.{bits_byte}
use Rattle.rules.specs.Kroot as S
use Rattle.kroot.proofs.maclt_field.Goals as goal

pub returns : goal.returns
unfolding S.maclt_field_of
returns c = sym (bits_byte c.args.c.now 2 (omega (arith, c.type_inv.c 2)))
