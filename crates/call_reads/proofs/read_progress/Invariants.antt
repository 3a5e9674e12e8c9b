-- `call_reads::read_progress` meets its contract: after `id` turns the first 2 id bytes are the pairs of so many DSM IDs.
use mathlib.Core.Path.{◌≡◌}
use Prim.Native.Nat.{◌*◌}
use lib.ListN.{length, take}
use Rattle.rules.specs.Progress.{pairs_of}
use Rattle.rules.specs.State.{State, progress_lent}
use Rattle.call_reads.proofs.read_progress.Given as goal

abbrev pub invariant-loop-id : goal.invariant-loop-id
invariant-loop-id l = (length l.out ≡ 32) × ((s : State) → take (2 * l.id) l.out ≡ pairs_of (progress_lent s l.blocks l.present).store l.id)
