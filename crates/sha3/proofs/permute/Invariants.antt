-- `sha3::permute` meets its contract: before turn i, 2 * i rounds are done.
use Rattle.std.proofs.Common.{◌≡◌, ◌*◌}
use Rattle.sha3.specs.Sha3 as S
use Rattle.sha3.specs.Mask as K
use Rattle.sha3.proofs.permute.Given as goal

abbrev pub invariant-loop-i : goal.invariant-loop-i
invariant-loop-i l = l.s ≡ K.masked (S.rounds (K.masked l.initial.s) (2 * l.i))
