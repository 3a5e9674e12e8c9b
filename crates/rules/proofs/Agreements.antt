-- What a satellite's sets rest on, and that a tag which agrees leaves it so: the authentic set on forty bits, the candidate on the bits of its total.
-- `A navdata turn c` says that the tag c agreed with these bits while the chain with this number was in force. Assumes nothing.
use Prim.Native.Nat.{ℕ, ◌+◌, ◌-◌, ◌≤◌, ◌<◌}
use mathlib.Core.Path.{◌≡◌, refl}
use mathlib.Core.Logic.{◌≢◌, ◌⊎◌, inl, inr}
use mathlib.Core.Bool.{Bool, true, false, cond, not, ◌&&◌}
use mathlib.Core.List.{List, [], ◌∷◌}
use native.Mathlib.Nat.{le_refl, le_trans}
use native.Mathlib.Omega.{arith}
use lib.Dec.{eqb, leb, ltb}
use lib.ListN.{length}
use borrow.Author.Tests.{eqb-false, leb-true, leb-false, ltb-true, ltb-false, not-true}
use Rattle.laws.proofs.Refusal.{by_test}
use Rattle.laws.proofs.Same.{same_true}
use Rattle.laws.proofs.Tests.{and_left, and_right}
use Rattle.rules.specs.Candidates.{SetPair, Agreement, later_stamp, set_entered, candidate_gone, candidate_held, on_set, on_candidate, total_with, latest_with, summed, agreed}
use Rattle.rules.specs.Claim.{Counted, tag_name, names, NoneOf, Distinct, Each, sizes}
use Rattle.rules.specs.State.{copy_length}
use Rattle.rules.specs.Times.{stamp_of}

-- ---- tags

pub each_map : (P Q : Counted → Type 0) → ((c : Counted) → P c → Q c) → (cs : List Counted) → Each P cs → Each Q cs
each_map P Q f [] e = tt
each_map P Q f (c ∷ cs) e = (f c e.0, each_map P Q f cs e.1)

-- tags that agreed with one chain in force, all distinct, none after `time`; and one that came then
pub record Rests (A : ℕ → Counted → Type 0) (time turn : ℕ) (tags : List Counted) : Type 0 where
  pub each : Each (A turn) tags
  pub distinct : Distinct (names tags)
  pub latest : Each (λ (c : Counted). c.tag.time ≤ time) tags
  pub last : Counted
  pub last_turn : ℕ
  pub came : last.tag.time ≡ time
  pub agreed : A last_turn last

pub record Forty (A : ℕ → Counted → Type 0) (time : ℕ) : Type 0 where
  pub tags : List Counted
  pub turn : ℕ
  pub rests : Rests A time turn tags
  pub enough : 40 ≤ sizes tags

-- `used` has the names of all tags that were judged
pub record Candidate (A : ℕ → Counted → Type 0) (used : List (List ℕ)) (turn time total : ℕ) : Type 0 where
  pub tags : List Counted
  pub rests : Rests A time turn tags
  pub sum : sizes tags ≡ total
  pub within : (n : List ℕ) → NoneOf n used → NoneOf n (names tags)

pub record PairIs (A : List ℕ → ℕ → Counted → Type 0) (used : List (List ℕ)) (turn : ℕ) (p : SetPair) : Type 0 where
  pub set : p.stamp ≢ 0 → Forty (A p.set) (p.stamp - 1)
  pub candidate : p.latest ≢ 0 → Candidate (A p.candidate) used turn (p.latest - 1) p.total
  pub short : p.latest ≢ 0 → p.total < 40

-- ---- what agreed before agreed

rests_map : (A B : ℕ → Counted → Type 0) (time turn : ℕ) (tags : List Counted) → ((turn : ℕ) (c : Counted) → A turn c → B turn c) → Rests A time turn tags → Rests B time turn tags
rests_map A B time turn tags f r =
    record {
      each = each_map (A turn) (B turn) (f turn) tags r.each;
      distinct = r.distinct;
      latest = r.latest;
      last = r.last;
      last_turn = r.last_turn;
      came = r.came;
      agreed = f r.last_turn r.last r.agreed;
    }

pub forty_map : (A B : ℕ → Counted → Type 0) (time : ℕ) → ((turn : ℕ) (c : Counted) → A turn c → B turn c) → Forty A time → Forty B time
forty_map A B time f v = record { tags = v.tags; turn = v.turn; rests = rests_map A B time v.turn v.tags f v.rests; enough = v.enough }

pub pair_map : (A B : List ℕ → ℕ → Counted → Type 0) (used : List (List ℕ)) (turn : ℕ) (p : SetPair) → ((d : List ℕ) (turn : ℕ) (c : Counted) → A d turn c → B d turn c)
    → PairIs A used turn p → PairIs B used turn p
pair_map A B used turn p f v =
    record {
      set = λ n. forty_map (A p.set) (B p.set) (p.stamp - 1) (f p.set) (v.set n);
      candidate = λ n. (
          let k = v.candidate n in
          record {
            tags = k.tags;
            rests = rests_map (A p.candidate) (B p.candidate) (p.latest - 1) turn k.tags (f p.candidate) k.rests;
            sum = k.sum;
            within = k.within;
          }
          );
      short = v.short;
    }

-- one more name is used
pub pair_used : (A : List ℕ → ℕ → Counted → Type 0) (m : List ℕ) (used : List (List ℕ)) (turn : ℕ) (p : SetPair) → PairIs A used turn p → PairIs A (m ∷ used) turn p
pair_used A m used turn p v =
    record {
      set = v.set;
      candidate = λ n. (
          let k = v.candidate n in
          record { tags = k.tags; rests = k.rests; sum = k.sum; within = λ n u. k.within n u.1 }
          );
      short = v.short;
    }

-- ---- one more tag

module _ (A : ℕ → Counted → Type 0) (turn : ℕ) (c : Counted) (a : A turn c) where
  first_tag : Rests A c.tag.time turn (c ∷ [])
  first_tag = record { each = (a, tt); distinct = (tt, tt); latest = (le_refl c.tag.time, tt); last = c; last_turn = turn; came = refl; agreed = a }

  -- one that came before the latest
  tag_before : (time : ℕ) (tags : List Counted) → c.tag.time ≤ time → NoneOf (tag_name c.tag) (names tags) → Rests A time turn tags → Rests A time turn (c ∷ tags)
  tag_before time tags h u r =
      record {
        each = (a, r.each);
        distinct = (u, r.distinct);
        latest = (h, r.latest);
        last = r.last;
        last_turn = r.last_turn;
        came = r.came;
        agreed = r.agreed;
      }

  not_later : (time : ℕ) (tags : List Counted) → time ≤ c.tag.time → Each (λ (d : Counted). d.tag.time ≤ time) tags → Each (λ (d : Counted). d.tag.time ≤ c.tag.time) tags
  not_later time tags h e = each_map (λ (d : Counted). d.tag.time ≤ time) (λ (d : Counted). d.tag.time ≤ c.tag.time) (λ d g. le_trans g h) tags e

  -- one that did not
  tag_after : (time : ℕ) (tags : List Counted) → time ≤ c.tag.time → NoneOf (tag_name c.tag) (names tags) → Rests A time turn tags → Rests A c.tag.time turn (c ∷ tags)
  tag_after time tags h u r =
      record {
        each = (a, r.each);
        distinct = (u, r.distinct);
        latest = (le_refl c.tag.time, not_later time tags h r.latest);
        last = c;
        last_turn = turn;
        came = refl;
        agreed = a;
      }

  -- one on the bits of an authentic set, which did not come before its tag
  set_after : (time : ℕ) → time ≤ c.tag.time → Forty A time → Forty A c.tag.time
  set_after time h v =
      record {
        tags = v.tags;
        turn = v.turn;
        rests =
            record {
              each = v.rests.each;
              distinct = v.rests.distinct;
              latest = not_later time v.tags h v.rests.latest;
              last = c;
              last_turn = turn;
              came = refl;
              agreed = a;
            };
        enough = v.enough;
      }

-- ---- one satellite

-- "Outcome 1 replaces the satellite's authentic set unless that set's tag came later."
entered_set : (A : List ℕ → ℕ → Counted → Type 0) (stamp : ℕ) (navdata : List ℕ) (p : SetPair) → (p.stamp ≢ 0 → Forty (A p.set) (p.stamp - 1)) → (ltb stamp p.stamp ≡ false → Forty (A navdata) (stamp - 1))
    → (set_entered stamp navdata p).stamp ≢ 0 → Forty (A (set_entered stamp navdata p).set) ((set_entered stamp navdata p).stamp - 1)
unfolding set_entered later_stamp
entered_set A stamp navdata p old new = go (ltb stamp p.stamp) refl
  where
    go : (b : Bool) → ltb stamp p.stamp ≡ b → cond b p.stamp stamp ≢ 0 → Forty (A (cond b p.set navdata)) (cond b p.stamp stamp - 1)
    go true e n = old n
    go false e n = new e

-- what is so of what a tag that agrees leaves
pub record AgreedIs (A : List ℕ → ℕ → Counted → Type 0) (used : List (List ℕ)) (turn : ℕ) (navdata : List ℕ) (r : Agreement) : Type 0 where
  pub pair : PairIs A used turn r.pair
  -- outcome 1 has its forty bits
  pub forty : r.outcome ≡ 1 → (time : ℕ) × Forty (A navdata) time

module _ (A : List ℕ → ℕ → Counted → Type 0) (used : List (List ℕ)) (turn : ℕ) (navdata : List ℕ) (c : Counted) (a : A navdata turn c) (unused : NoneOf (tag_name c.tag) used) (p : SetPair) (v : PairIs A used turn p) where
  abbrev name : List ℕ
  name = tag_name c.tag

  abbrev stamp : ℕ
  stamp = c.tag.time + 1

  back : c.tag.time + 1 - 1 ≡ c.tag.time
  back = omega arith

  abbrev Good : Agreement → Type 0
  Good r = AgreedIs A (name ∷ used) turn navdata r

  -- "A match on the authentic set's bits is outcome 1 and touches no candidate."
  on_set_law : on_set navdata p ≡ true → Good (record { outcome = 1; pair = set_entered stamp navdata p })
  unfolding on_set set_entered
  on_set_law h =
      let n = eqb-false p.stamp 0 (not-true (eqb p.stamp 0) (and_left (not (eqb p.stamp 0)) _ h)) in
      let e = same_true p.set navdata (and_right (not (eqb p.stamp 0)) _ h) in
      let f : Forty (A navdata) (p.stamp - 1) = rw (← e) (v.set n) in
      record {
        pair =
            record {
              set =
                  entered_set A stamp navdata p v.set
                  (λ later. (
                  let q = ltb-false stamp p.stamp later in
                  rw back (set_after (A navdata) turn c a (p.stamp - 1) (omega arith) f)
                  ));
              candidate = (pair_used A name used turn p v).candidate;
              short = v.short;
            };
        forty = λ _. (p.stamp - 1, f);
      }

  -- the candidate with this tag
  candidate_now : Candidate (A navdata) (name ∷ used) turn (latest_with stamp navdata p - 1) (total_with c.size navdata p)
  unfolding latest_with total_with later_stamp on_candidate
  candidate_now = go (on_candidate navdata p) refl
    where
      anew : Candidate (A navdata) (name ∷ used) turn (c.tag.time + 1 - 1) c.size
      anew =
          rw back (record {
            tags = c ∷ [];
            rests = first_tag (A navdata) turn c a;
            sum = omega arith;
            within = λ n u. (u.0, tt);
          })

      more : p.latest ≢ 0 → p.candidate ≡ navdata → (b : Bool) → ltb stamp p.latest ≡ b → Candidate (A navdata) (name ∷ used) turn (cond b p.latest stamp - 1) (p.total + c.size)
      more n e true g =
          let k : Candidate (A navdata) used turn (p.latest - 1) p.total = rw (← e) (v.candidate n) in
          let q = ltb-true stamp p.latest g in
          let s = k.sum in
          record {
            tags = c ∷ k.tags;
            rests = tag_before (A navdata) turn c a (p.latest - 1) k.tags (omega arith) (k.within name unused) k.rests;
            sum = omega arith;
            within = λ n u. (u.0, k.within n u.1);
          }
      more n e false g =
          let k : Candidate (A navdata) used turn (p.latest - 1) p.total = rw (← e) (v.candidate n) in
          let q = ltb-false stamp p.latest g in
          let s = k.sum in
          rw back (record {
            tags = c ∷ k.tags;
            rests = tag_after (A navdata) turn c a (p.latest - 1) k.tags (omega arith) (k.within name unused) k.rests;
            sum = omega arith;
            within = λ n u. (u.0, k.within n u.1);
          })

      go : (b : Bool) → on_candidate navdata p ≡ b
          → Candidate (A navdata) (name ∷ used) turn (cond b (cond (ltb stamp p.latest) p.latest stamp) stamp - 1) (cond b (p.total + c.size) c.size)
      go false h = anew
      go true h =
          more
          (eqb-false p.latest 0 (not-true (eqb p.latest 0) (and_left (not (eqb p.latest 0)) _ h)))
          (same_true p.candidate navdata (and_right (not (eqb p.latest 0)) _ h))
          (ltb stamp p.latest) refl

  -- "At 40 bits (outcome 1) the candidate becomes the authentic set, with its latest tag as the set's, or goes"
  summed_is : (total latest : ℕ) → Candidate (A navdata) (name ∷ used) turn (latest - 1) total → Good (summed total latest navdata p)
  unfolding summed candidate_gone candidate_held set_entered
  summed_is total latest k =
      by_test Good (leb 40 total)
      (λ h. (
      let q = leb-true 40 total h in
      let s = k.sum in
      let f : Forty (A navdata) (latest - 1) = record { tags = k.tags; turn = turn; rests = k.rests; enough = omega arith } in
      record {
        pair = record { set = entered_set A latest navdata p v.set (λ _. f); candidate = λ n. absurd (n refl); short = λ n. absurd (n refl) };
        forty = λ _. (latest - 1, f);
      }
      ))
      (λ h. record { pair = record { set = v.set; candidate = λ _. k; short = λ _. leb-false 40 total h }; forty = λ e. absurd (omega (arith, e)) })

  pub agreed_is : Good (agreed c.size (stamp_of c.tag.time) navdata p)
  unfolding agreed stamp_of
  agreed_is =
      by_test Good (on_set navdata p) on_set_law
      (λ _.
      by_test Good (not (on_candidate navdata p) && ltb stamp p.latest)
      (λ _. record { pair = pair_used A name used turn p v; forty = λ e. absurd (omega (arith, e)) })
      (λ _. summed_is (total_with c.size navdata p) (latest_with stamp navdata p) candidate_now))

-- ---- outcomes and lengths

pub agreed_outcome : (ms stamp : ℕ) (navdata : List ℕ) (p : SetPair) → ((agreed ms stamp navdata p).outcome ≡ 1) ⊎ ((agreed ms stamp navdata p).outcome ≡ 9)
unfolding agreed summed
agreed_outcome ms stamp navdata p =
    let P : Agreement → Type 0 = λ r. (r.outcome ≡ 1) ⊎ (r.outcome ≡ 9) in
    by_test P (on_set navdata p) (λ _. inl refl)
    (λ _.
    by_test P (not (on_candidate navdata p) && ltb stamp p.latest) (λ _. inr refl)
    (λ _. by_test P (leb 40 (total_with ms navdata p)) (λ _. inl refl) (λ _. inr refl)))

pub record Whole (p : SetPair) : Type 0 where
  pub set : length p.set ≡ copy_length
  pub candidate : length p.candidate ≡ copy_length

entered_whole : (stamp : ℕ) (navdata : List ℕ) (p : SetPair) → length navdata ≡ copy_length → Whole p → Whole (set_entered stamp navdata p)
unfolding set_entered
entered_whole stamp navdata p h w =
    record { set = by_test (λ (d : List ℕ). length d ≡ copy_length) (ltb stamp p.stamp) (λ _. w.set) (λ _. h); candidate = w.candidate }

pub agreed_whole : (ms stamp : ℕ) (navdata : List ℕ) (p : SetPair) → length navdata ≡ copy_length → Whole p → Whole (agreed ms stamp navdata p).pair
unfolding agreed summed candidate_gone candidate_held
agreed_whole ms stamp navdata p h w =
    let P : Agreement → Type 0 = λ r. Whole r.pair in
    by_test P (on_set navdata p) (λ _. entered_whole stamp navdata p h w)
    (λ _.
    by_test P (not (on_candidate navdata p) && ltb stamp p.latest) (λ _. w)
    (λ _.
    by_test P (leb 40 (total_with ms navdata p))
    (λ _. (
    let e = entered_whole (latest_with stamp navdata p) navdata p h w in
    record { set = e.set; candidate = e.candidate }
    ))
    (λ _. record { set = w.set; candidate = h })))
