-- `rules::known_points` carries 01's known points and its order of checks in its contract. Assumes nothing.
use Rattle.rules.proofs.Gaps.{gap_taken, gap_refused}
use Rattle.rules.proofs.Points.{points_right, orders_right}
use Rattle.rules.proofs.known_points.Goals as goal

pub returns : goal.returns
returns c = record { points = points_right; orders = orders_right; gap_taken = gap_taken; gap_refused = gap_refused }
