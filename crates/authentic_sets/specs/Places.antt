-- The places of authentic sets and candidates: what one write leaves, and what the lent regions are after a tag that agrees with its set.
use Rattle.std.specs.Prelude.{ℕ, ◌+◌, ◌-◌, ◌*◌, ◌≡◌, Bool, cond, not, ◌&&◌, List, ltb, eqb, get_or, set}
use Rattle.laws.specs.Lists.{part, splice, same}
use Rattle.rules.specs.Candidates.{Agreement, later_stamp, sets_with, arrivals_with}
use Rattle.rules.specs.State.{satellites, copy_length}

-- there is a set at this place of the 72, and these are its bytes
unfoldable pub holds_at : List ℕ → List ℕ → ℕ → List ℕ → Bool
holds_at sets arrivals place navdata = not (eqb (get_or arrivals place 0) 0) && same (part sets (place * copy_length) copy_length) navdata

-- the satellite's authentic set, replaced unless its tag came later
unfoldable pub sets_entered : List ℕ → List ℕ → ℕ → ℕ → List ℕ → List ℕ
sets_entered sets arrivals prn stamp navdata = cond (ltb stamp (get_or arrivals (prn - 1) 0)) sets (splice sets ((prn - 1) * copy_length) navdata)

unfoldable pub arrivals_entered : List ℕ → ℕ → ℕ → List ℕ
arrivals_entered arrivals prn stamp = set arrivals (prn - 1) (later_stamp (get_or arrivals (prn - 1) 0) stamp)

-- the stamp of a candidate's latest tag, and its total
unfoldable pub numbers_put : List ℕ → ℕ → ℕ → ℕ → List ℕ
numbers_put arrivals prn latest total = set (set arrivals (satellites + (prn - 1)) latest) (2 * satellites + (prn - 1)) total

-- What the lent regions are after a tag that agrees with its set, agreement a: the outcome r, and the places of its satellite.
pub record Agrees (a : Agreement) (prn : ℕ) (sets arrivals sets' arrivals' : List ℕ) (r : ℕ) : Type 0 where
  pub outcome : r ≡ a.outcome
  pub places : sets' ≡ sets_with sets prn a.pair
  pub numbers : arrivals' ≡ arrivals_with arrivals prn a.pair
