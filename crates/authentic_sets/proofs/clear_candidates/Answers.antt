-- `authentic_sets::clear_candidates` meets its contract: the 72 numbers that were lent have come back as 0.
use mathlib.Core.Path.{◌≡◌, ap, ◌∙◌}
use Prim.Native.Nat.{ℕ}
use lib.ListN.{replicate, length, take, drop, length-take, length-drop, length-replicate}
use native.Mathlib.Omega.{arith}
use Rattle.buffer.proofs.Library.{put_part}
use Rattle.rules.specs.Candidates.{candidates_cleared}
use Rattle.authentic_sets.specs.Regions.{auth}
use Rattle.authentic_sets.proofs.clear_candidates.Goals as goal

pub returns : goal.returns
unfolding candidates_cleared
returns c sets =
    let n : length (take 72 (drop 36 c.args.arrivals.now)) ≡ 72 = simp (length-take, length-drop) (omega arith) in
    ap (auth sets)
    (put_part _ 36 72 _ _
    (c.fill.ensures.after (λ y h. h) ∙ ap (λ (k : ℕ). replicate k 0) n)
    (length-replicate {A = ℕ} 72 0))
