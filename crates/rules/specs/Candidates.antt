-- Authentic sets and candidates (02, P4, "Forty bits before a yes"): what a tag that agrees with its set does to the sets of its satellite. Due tags
-- and the section's own tags alike go through `agreed`.
use Rattle.std.specs.Prelude.{ℕ, ◌+◌, ◌-◌, ◌*◌, Bool, cond, not, ◌&&◌, List, leb, ltb, eqb, get_or, set, replicate}
use Rattle.laws.specs.Lists.{part, splice}
use Rattle.rules.specs.Bits.{same}
use Rattle.rules.specs.State.{Auth, satellites, copy_length}

-- ---- one satellite

-- "Each satellite keeps one candidate beside its authentic set."
pub record SetPair : Type 0 where
  -- the authentic set, and the stamp of its tag's arrival: 0 where there is none
  pub set : List ℕ
  pub stamp : ℕ
  -- the candidate, the stamp of its latest tag's arrival (0 where there is none), and the tag bits that agree on it
  pub candidate : List ℕ
  pub latest : ℕ
  pub total : ℕ

-- the later of two stamps
unfoldable pub later_stamp : ℕ → ℕ → ℕ
later_stamp a b = cond (ltb b a) a b

-- 01: "Outcome 1 replaces the satellite's authentic set unless that set's tag came later."
unfoldable pub set_entered : ℕ → List ℕ → SetPair → SetPair
set_entered stamp navdata p =
    record {
      set = cond (ltb stamp p.stamp) p.set navdata;
      stamp = later_stamp p.stamp stamp;
      candidate = p.candidate;
      latest = p.latest;
      total = p.total;
    }

-- the bytes of a candidate that is gone are not looked at
unfoldable pub candidate_gone : SetPair → SetPair
candidate_gone p = record { set = p.set; stamp = p.stamp; candidate = p.candidate; latest = 0; total = 0 }

unfoldable pub candidate_held : ℕ → List ℕ → ℕ → SetPair → SetPair
candidate_held latest navdata total p = record { set = p.set; stamp = p.stamp; candidate = navdata; latest = latest; total = total }

-- there is an authentic set, and these are its bits: 549 of them in 69 bytes, the last three zero
unfoldable pub on_set : List ℕ → SetPair → Bool
on_set navdata p = not (eqb p.stamp 0) && same p.set navdata

-- there is a candidate, and these are its bits
unfoldable pub on_candidate : List ℕ → SetPair → Bool
on_candidate navdata p = not (eqb p.latest 0) && same p.candidate navdata

-- "Tag bits that agree on the same 549 bits of a satellite are summed."; "One on bits of neither .. begins its total anew"
unfoldable pub total_with : ℕ → List ℕ → SetPair → ℕ
total_with ms navdata p = cond (on_candidate navdata p) (p.total + ms) ms

-- the latest of the tags that agree on them, by arrival (B18)
unfoldable pub latest_with : ℕ → List ℕ → SetPair → ℕ
latest_with stamp navdata p = cond (on_candidate navdata p) (later_stamp p.latest stamp) stamp

-- "A set is called authentic at 40 bits"
abbrev pub authentic_bits : ℕ
authentic_bits = 40

-- what a tag that agrees is told, and what it leaves
pub record Agreement : Type 0 where
  pub outcome : ℕ
  pub pair : SetPair

-- "A set is called authentic at 40 bits; until then a matching tag is outcome 9 and the set is only a candidate."; "At 40 bits (outcome 1) the candidate
-- becomes the authentic set, with its latest tag as the set's, or goes if the old set's tag came later than that one."
unfoldable pub summed : ℕ → ℕ → List ℕ → SetPair → Agreement
summed total latest navdata p =
    cond (leb authentic_bits total)
    (record { outcome = 1; pair = candidate_gone (set_entered latest navdata p) })
    (record { outcome = 9; pair = candidate_held latest navdata total p })

-- a tag of `ms` bits that came at `stamp` agrees with this set: "A match on the authentic set's bits is outcome 1 and touches no candidate. One on bits of
-- neither replaces the candidate and begins its total anew, unless the candidate's latest tag came later." (then it is 9 and counts nowhere: B19)
unfoldable pub agreed : ℕ → ℕ → List ℕ → SetPair → Agreement
agreed ms stamp navdata p =
    cond (on_set navdata p)
    (record { outcome = 1; pair = set_entered stamp navdata p })
    (cond (not (on_candidate navdata p) && ltb stamp p.latest)
    (record { outcome = 9; pair = p })
    (summed (total_with ms navdata p) (latest_with stamp navdata p) navdata p))

-- ---- the satellites' places

-- the authentic sets, then the candidates; the stamps of the sets, then those of the candidates, then the totals
unfoldable pub pair_at : List ℕ → List ℕ → ℕ → SetPair
pair_at sets arrivals prn =
    record {
      set = part sets ((prn - 1) * copy_length) copy_length;
      stamp = get_or arrivals (prn - 1) 0;
      candidate = part sets ((satellites + (prn - 1)) * copy_length) copy_length;
      latest = get_or arrivals (satellites + (prn - 1)) 0;
      total = get_or arrivals (2 * satellites + (prn - 1)) 0;
    }

unfoldable pub sets_with : List ℕ → ℕ → SetPair → List ℕ
sets_with sets prn p = splice (splice sets ((prn - 1) * copy_length) p.set) ((satellites + (prn - 1)) * copy_length) p.candidate

unfoldable pub arrivals_with : List ℕ → ℕ → SetPair → List ℕ
arrivals_with arrivals prn p =
    set (set (set arrivals (prn - 1) p.stamp) (satellites + (prn - 1)) p.latest) (2 * satellites + (prn - 1)) p.total

-- "A new chain or a drop clears candidates."
unfoldable pub candidates_cleared : Auth → Auth
candidates_cleared a = record { sets = a.sets; arrivals = splice a.arrivals satellites (replicate (2 * satellites) 0) }
