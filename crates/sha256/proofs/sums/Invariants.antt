-- `sha256::sums` meets its contract: before turn i, the first i words are sums.
use Rattle.std.proofs.Common.{◌≡◌, length, take}
use Rattle.sha256.specs.Sha256 as S
use Rattle.sha256.proofs.sums.Given as goal

abbrev pub invariant-loop-i : goal.invariant-loop-i
invariant-loop-i l = (length l.v ≡ 8) × (take l.i l.v ≡ take l.i (S.sums l.h l.s))
