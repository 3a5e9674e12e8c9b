-- `sha3::sponge` meets its contract: before turn i, the first i blocks are absorbed.
use Rattle.std.proofs.Common.{◌≡◌}
use Rattle.sha3.specs.Sha3 as S
use Rattle.sha3.proofs.sponge.Given as goal

abbrev pub invariant-loop-i : goal.invariant-loop-i
invariant-loop-i l = l.s ≡ S.absorbed l.rate (S.padded l.rate l.m) l.i
