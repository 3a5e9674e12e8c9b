-- `kroot::mf` meets its contract: a field inside one byte.
use mathlib.Core.Path.{refl, sym}
use Rattle.kroot.proofs.Parameters.{low_bits}
use Rattle.rules.specs.Kroot as S
use Rattle.kroot.proofs.mf.Goals as goal

pub returns : goal.returns
unfolding S.mf_of
returns c = sym (low_bits c.args.c.now 0 6 2 refl)
