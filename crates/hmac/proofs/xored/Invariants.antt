-- `hmac::xored` meets its contract: before turn i, the first i bytes are changed, and the others as they were.
use Rattle.std.proofs.Common.{◌≡◌, ℕ, ◌≤◌, length, get_or, take}
use Rattle.hmac.specs.Hmac as Spec
use Rattle.hmac.proofs.xored.Given as goal

abbrev pub invariant-loop-y : goal.invariant-loop-y
invariant-loop-y l =
    (length l.y-items ≡ 64)
    × ((take l.y-index l.y-items ≡ take l.y-index (Spec.xored l.fn.b l.x))
    × ((k : ℕ) → l.y-index ≤ k → get_or l.y-items k 0 ≡ get_or l.fn.b k 0))
