-- `kroot::pkid` meets its contract: a field inside one byte.
use mathlib.Core.Path.{refl, sym}
use Rattle.kroot.proofs.Parameters.{low_bits}
use Rattle.rules.specs.Kroot as S
use Rattle.kroot.proofs.pkid.Goals as goal

pub returns : goal.returns
unfolding S.pkid_of
returns c = sym (low_bits c.args.d.now 0 4 4 refl)
