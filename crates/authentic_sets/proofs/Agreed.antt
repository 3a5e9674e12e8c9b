-- What a tag that agrees leaves, case by case: the places that the code writes are the definition's own. Assumes nothing.
use Prim.Native.Nat.{ℕ, max, ◌+◌, ◌-◌, ◌*◌, ◌≤◌, ◌<◌}
use mathlib.Core.Path.{◌≡◌, refl, ap, sym, ◌∙◌}
use mathlib.Core.Logic.{⊎_elim}
use mathlib.Core.Bool.{Bool, true, false, cond, not}
use mathlib.Core.List.{List}
use lib.Dec.{ltb, eqb}
use lib.ListN.{length, get_or, set}
use native.Mathlib.Omega.{arith}
use borrow.Author.Tests.{ltb-true, ltb-false, le-leb, lt-leb, lt-ltb, le-ltb}
use Rattle.laws.proofs.Same.{same_true}
use Rattle.laws.proofs.Splice.{either}
use Rattle.laws.proofs.Tests.{and_right}
use Rattle.laws.specs.Lists.{part, splice, same}
use Rattle.regions.proofs.Faults.{prn_in}
use Rattle.rules.proofs.Written.{set_back, new_set, new_candidate, sets_back, new_stamp, new_numbers, arrivals_back}
use Rattle.rules.specs.Candidates.{SetPair, later_stamp, set_entered, candidate_gone, candidate_held, on_set, on_candidate, total_with, latest_with, summed, agreed, pair_at, sets_with, arrivals_with}
use Rattle.rules.specs.State.{satellites, sets_length, arrivals_length, copy_length}
use Rattle.authentic_sets.specs.Places.{holds_at, sets_entered, arrivals_entered, numbers_put, Agrees}

-- the later of two stamps
pub later_is : (a b : ℕ) → max a b ≡ later_stamp a b
unfolding later_stamp
later_is a b =
    ⊎_elim
    (λ t. let h = ltb-true b a t in rw t (omega arith))
    (λ f. let h = ltb-false b a f in rw f (omega arith))
    (either (ltb b a))

-- a stamp that is not written is the later one
pub stamp_back : (arrivals : List ℕ) (prn stamp : ℕ) → prn - 1 < length arrivals → ltb stamp (get_or arrivals (prn - 1) 0) ≡ true → arrivals ≡ arrivals_entered arrivals prn stamp
unfolding arrivals_entered later_stamp
stamp_back arrivals prn stamp h e = rw e (sym (set_back arrivals (prn - 1) h))

-- a set that is replaced by its own bytes stays
pub own_bytes : (b : Bool) (x y : List ℕ) → x ≡ y → cond b x y ≡ x
own_bytes true x y e = refl
own_bytes false x y e = sym e

module _ (sets arrivals : List ℕ) (prn : ℕ) (navdata : List ℕ) (sets_size : length sets ≡ sets_length) (arrivals_size : length arrivals ≡ arrivals_length) (long : length navdata ≡ copy_length) (from : 1 ≤ prn) (to : prn ≤ 36) where
  abbrev p : SetPair
  p = pair_at sets arrivals prn

  -- the pair with the set entered, and no candidate
  abbrev taken : ℕ → SetPair
  taken latest = candidate_gone (set_entered latest navdata p)

  -- ---- 40 bits, or not yet

  set_stays : (latest : ℕ) → ltb latest (get_or arrivals (prn - 1) 0) ≡ true → sets_entered sets arrivals prn latest navdata ≡ sets_with sets prn (taken latest)
  unfolding sets_entered candidate_gone set_entered pair_at
  set_stays latest e =
      let a : sets_entered sets arrivals prn latest navdata ≡ sets = rw e refl in
      a ∙ sym (sets_back sets arrivals prn sets_size arrivals_size (prn_in prn from to) (taken latest) (rw e refl) refl)

  set_new : (latest : ℕ) → ltb latest (get_or arrivals (prn - 1) 0) ≡ false → sets_entered sets arrivals prn latest navdata ≡ sets_with sets prn (taken latest)
  unfolding sets_entered candidate_gone set_entered pair_at
  set_new latest e =
      let n : (taken latest).set ≡ navdata = rw e refl in
      let a : sets_entered sets arrivals prn latest navdata ≡ splice sets ((prn - 1) * copy_length) navdata = rw e refl in
      a ∙ sym (new_set sets arrivals prn sets_size arrivals_size (prn_in prn from to) (taken latest) (ap length n ∙ long) refl ∙ ap (splice sets ((prn - 1) * copy_length)) n)

  pub forty : (total latest : ℕ) (sets' arrivals₁ arrivals' : List ℕ) → 40 ≤ total
      → sets' ≡ sets_entered sets arrivals prn latest navdata → arrivals₁ ≡ arrivals_entered arrivals prn latest → arrivals' ≡ numbers_put arrivals₁ prn 0 0
      → Agrees (summed total latest navdata p) prn sets arrivals sets' arrivals' 1
  unfolding summed numbers_put arrivals_entered arrivals_with candidate_gone set_entered pair_at
  forty total latest sets' arrivals₁ arrivals' h es e1 e2 =
      rw (le-leb 40 total h)
      (record {
        outcome = refl;
        places = es ∙ ⊎_elim (λ e. set_stays latest e) (λ e. set_new latest e) (either (ltb latest (get_or arrivals (prn - 1) 0)));
        numbers = e2 ∙ ap (λ (d : List ℕ). numbers_put d prn 0 0) e1;
      })

  pub not_yet : (total latest : ℕ) (sets' arrivals' : List ℕ) → total < 40
      → sets' ≡ splice sets ((satellites + (prn - 1)) * copy_length) navdata → arrivals' ≡ numbers_put arrivals prn latest total
      → Agrees (summed total latest navdata p) prn sets arrivals sets' arrivals' 9
  unfolding summed numbers_put candidate_held pair_at
  not_yet total latest sets' arrivals' h es ea =
      let q = candidate_held latest navdata total p in
      rw (lt-leb 40 total h)
      (record {
        outcome = refl;
        places = es ∙ sym (new_candidate sets arrivals prn sets_size arrivals_size (prn_in prn from to) q refl);
        numbers = ea ∙ sym (new_numbers sets arrivals prn sets_size arrivals_size (prn_in prn from to) q refl);
      })

  -- ---- bits of the authentic set, of the candidate, of neither

  module _ (ms stamp : ℕ) where
    pub on_set_law : (v : ℕ) → holds_at sets arrivals (prn - 1) navdata ≡ true → v ≡ later_stamp (get_or arrivals (prn - 1) 0) stamp
        → Agrees (agreed ms stamp navdata p) prn sets arrivals sets (set arrivals (prn - 1) v) 1
    unfolding agreed on_set holds_at set_entered pair_at
    on_set_law v e ev =
        let q = set_entered stamp navdata p in
        let n : part sets ((prn - 1) * copy_length) copy_length ≡ navdata =
        same_true (part sets ((prn - 1) * copy_length) copy_length) navdata (and_right (not (eqb (get_or arrivals (prn - 1) 0) 0)) (same (part sets ((prn - 1) * copy_length) copy_length) navdata) e) in
        rw e
        (record {
          outcome = refl;
          places = sym (sets_back sets arrivals prn sets_size arrivals_size (prn_in prn from to) q (own_bytes (ltb stamp p.stamp) p.set navdata n) refl);
          numbers = ap (set arrivals (prn - 1)) ev ∙ sym (new_stamp sets arrivals prn sets_size arrivals_size (prn_in prn from to) q refl refl);
        })

    module _ (other : holds_at sets arrivals (prn - 1) navdata ≡ false) where
      pub on_candidate_lem : (total latest : ℕ) (sets' arrivals' : List ℕ) (r : ℕ) → holds_at sets arrivals (satellites + (prn - 1)) navdata ≡ true
          → total ≡ get_or arrivals (2 * satellites + (prn - 1)) 0 + ms → latest ≡ later_stamp (get_or arrivals (satellites + (prn - 1)) 0) stamp
          → Agrees (summed total latest navdata p) prn sets arrivals sets' arrivals' r → Agrees (agreed ms stamp navdata p) prn sets arrivals sets' arrivals' r
      unfolding agreed on_set on_candidate total_with latest_with holds_at pair_at
      on_candidate_lem total latest sets' arrivals' r e et el q = rw (other, e, ← et, ← el) q

      pub too_old : holds_at sets arrivals (satellites + (prn - 1)) navdata ≡ false → stamp < get_or arrivals (satellites + (prn - 1)) 0
          → Agrees (agreed ms stamp navdata p) prn sets arrivals sets arrivals 9
      unfolding agreed on_set on_candidate holds_at pair_at
      too_old e h =
          rw (other, e, lt-ltb stamp (get_or arrivals (satellites + (prn - 1)) 0) h)
          (record {
            outcome = refl;
            places = sym (sets_back sets arrivals prn sets_size arrivals_size (prn_in prn from to) p refl refl);
            numbers = sym (arrivals_back sets arrivals prn sets_size arrivals_size (prn_in prn from to) p refl refl refl);
          })

      pub anew : (sets' arrivals' : List ℕ) (r : ℕ) → holds_at sets arrivals (satellites + (prn - 1)) navdata ≡ false → get_or arrivals (satellites + (prn - 1)) 0 ≤ stamp
          → Agrees (summed ms stamp navdata p) prn sets arrivals sets' arrivals' r → Agrees (agreed ms stamp navdata p) prn sets arrivals sets' arrivals' r
      unfolding agreed on_set on_candidate total_with latest_with holds_at pair_at
      anew sets' arrivals' r e h q = rw (other, e, le-ltb stamp (get_or arrivals (satellites + (prn - 1)) 0) h) q
