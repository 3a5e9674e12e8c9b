-- `sha256::finish` meets its contract: after i turns the hash value is that of the first i blocks.
use Rattle.std.proofs.Common.{◌≡◌, ◌+◌, ◌*◌, ◌++◌, length}
use Rattle.sha256.specs.Sha256 as S
use Rattle.sha256.proofs.finish.Given as goal

abbrev pub invariant-loop-i : goal.invariant-loop-i
invariant-loop-i l = l.g ≡ S.hashed l.initial.g (l.a ++ l.b ++ S.tail (l.n * 64 + (length l.a + length l.b))) l.i
