-- `sha3::absorb` meets its contract: before turn i, the first i lanes are sums.
use Rattle.std.proofs.Common.{◌≡◌, length, take}
use Rattle.sha3.specs.Sha3 as S
use Rattle.sha3.proofs.absorb.Given as goal

abbrev pub invariant-loop-i : goal.invariant-loop-i
invariant-loop-i l = (length l.t ≡ 25) × (take l.i l.t ≡ take l.i (S.added l.s (S.lanes l.b)))
