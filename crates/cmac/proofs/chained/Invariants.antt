-- `cmac::chained` meets its contract: after i turns c is C_i.
use mathlib.Core.Path.{◌≡◌}
use Rattle.laws.specs.Lists.{part}
use Rattle.aes.specs.Aes.{cipher}
use Rattle.cmac.specs.Cmac as S
use Rattle.cmac.proofs.chained.Given as goal

abbrev pub invariant-loop-i : goal.invariant-loop-i
invariant-loop-i l = l.c ≡ S.chained (cipher l.rounds (part l.kept 0 240)) (part l.kept 240 16) (part l.kept 256 16) l.m l.i
