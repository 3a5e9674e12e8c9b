-- Four satellites, or not yet (02, P5): "whether at least four satellites have an authentic set whose tag came within a given number of sub-frames". The
-- answer is by the count over all 36; whoever answers as soon as the fourth is met answers the same (FourLaws.antt). Candidates do not count (B33).
use Rattle.std.specs.Prelude.{ℕ, zero, suc, ◌+◌, ◌-◌, Bool, cond, ◌&&◌, List, leb, get_or}
use Rattle.laws.specs.Refusal.{neb}
use Rattle.rules.specs.State.{State, last_subframe, satellites}
use Rattle.rules.specs.Times.{seconds_of, subframe_at}

-- the age, in sub-frames, of a tag that came at `time`: "Ages are taken against the last noted sub-frame time", `last`, in seconds over weeks. A tag
-- that is later than it, which no start leads to, has age 0 (B30)
unfoldable pub age_at : ℕ → ℕ → ℕ
age_at last time = subframe_at (seconds_of time) (seconds_of last)

-- there is an authentic set, and its tag is recent: "An age equal to the limit counts." `clock` and `stamp` are those times plus 1, 0 for never
unfoldable pub recent : ℕ → ℕ → ℕ → Bool
recent clock limit stamp = neb stamp 0 && leb (age_at (clock - 1) (stamp - 1)) limit

-- how many of the first n satellites; their stamps stand in the first 36 places
unfoldable pub recent_count : ℕ → ℕ → List ℕ → ℕ → ℕ
recent_count clock limit arrivals zero = 0
recent_count clock limit arrivals (suc n) = recent_count clock limit arrivals n + cond (recent clock limit (get_or arrivals n 0)) 1 0

-- "at least four satellites", by "the count over all 36"; "before any is noted the answer is no."
unfoldable pub four_met : State → ℕ → Bool
four_met s limit = neb (last_subframe s.clocks) 0 && leb 4 (recent_count (last_subframe s.clocks) limit s.auth.arrivals satellites)
