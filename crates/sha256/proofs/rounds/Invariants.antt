-- `sha256::rounds` meets its contract: before round t, the rounds before it are done.
use Rattle.std.proofs.Common.{◌≡◌, ℕ, ◌-◌, ◌%◌, ◌≤◌, ◌<◌, List}
use Rattle.sha256.specs.Progress.{Before, GivesWord}
use Rattle.sha256.proofs.rounds.Given as goal

abbrev pub invariant-loop-t : goal.invariant-loop-t
invariant-loop-t g l =
    ((l.from ≤ l.t) × (l.t ≤ l.to) × ((l.to - l.t) % 8 ≡ 0))
    × ((h b : List ℕ) → ((u : ℕ) → l.from ≤ u → u < l.t → GivesWord g.W.Fn l.word b u) → Before h b l.from l.initial.v l.initial.x → Before h b l.t l.v l.x)

abbrev pub decreases-loop-t : goal.decreases-loop-t
decreases-loop-t g l = l.to - l.t
