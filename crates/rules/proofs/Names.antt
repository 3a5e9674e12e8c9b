-- Names of tags, one judged or kept after the other. Assumes nothing.
use Prim.Native.Nat.{ℕ, suc, ◌+◌, ◌-◌, ◌*◌, ◌≤◌, ◌<◌}
use mathlib.Core.Path.{◌≡◌, sym, ◌∙◌, ap}
use mathlib.Core.Logic.{◌≢◌, ⊎_elim}
use mathlib.Core.Bool.{true}
use mathlib.Core.List.{List, ◌∷◌, ◌++◌}
use native.Mathlib.Omega.{arith}
use lib.ListN.{length, drop}
use Rattle.laws.specs.Lists.{part, splice}
use Rattle.laws.proofs.Splice.{part_first, part_second, below?}
use Rattle.rules.specs.Claim.{tag_name, NoneOf}
use Rattle.rules.specs.State.{prn_valid, last_subframe_of, entry_length}
use Rattle.rules.specs.Tags.{entry_at, entry_tag}
use Rattle.rules.proofs.Invariant.{NamesAre, Newer, name_at}
use Rattle.rules.proofs.Parts.{part_whole}

-- no tag waits
pub no_names : (U : List ℕ → Type 0) (waiting : List ℕ) (count : ℕ) (used : List (List ℕ)) → count ≡ 0 → ((n : List ℕ) → U n → NoneOf n used) → NamesAre U waiting count used
no_names U waiting count used e f =
    record { apart = λ j k g h. absurd (omega arith); unused = λ k h. absurd (omega arith); unseen = λ n u. (f n u, λ k h. absurd (omega arith)) }

pub names_less : (U U2 : List ℕ → Type 0) (waiting : List ℕ) (count : ℕ) (used : List (List ℕ)) → ((n : List ℕ) → U2 n → U n) → NamesAre U waiting count used → NamesAre U2 waiting count used
names_less U U2 waiting count used f v = record { apart = v.apart; unused = v.unused; unseen = λ n u. v.unseen n (f n u) }

-- a tag is judged
pub names_judged : (U U2 : List ℕ → Type 0) (waiting : List ℕ) (count : ℕ) (used : List (List ℕ)) (m : List ℕ) → U m → ((n : List ℕ) → U2 n → U n × (n ≢ m)) → NamesAre U waiting count used
    → NamesAre U2 waiting count (m ∷ used)
names_judged U U2 waiting count used m um f v =
    record {
      apart = v.apart;
      unused = λ k h. ((λ e. (v.unseen m um).1 k h (sym e)), v.unused k h);
      unseen = λ n u. (
          let q = f n u in
          let r = v.unseen n q.0 in
          ((q.1, r.0), r.1)
          );
    }

-- ---- waiting tags

first_entry : (l e : List ℕ) (n k : ℕ) → length l ≡ n * entry_length → k < n → entry_at (l ++ e) k ≡ entry_at l k
unfolding entry_at
first_entry l e n k s h = part_first l e (k * entry_length) entry_length (omega arith)

last_entry : (l e : List ℕ) (n : ℕ) → length l ≡ n * entry_length → length e ≡ entry_length → entry_at (l ++ e) n ≡ e
unfolding entry_at
last_entry l e n s h =
    let z : n * entry_length - length l ≡ 0 = omega arith in
    part_second l e (n * entry_length) entry_length (omega arith) ∙ ap (λ (p : ℕ). part e p entry_length) z ∙ part_whole e entry_length h

-- a tag is kept
pub names-kept : (U U2 : List ℕ → Type 0) (waiting : List ℕ) (count : ℕ) (used : List (List ℕ)) (e : List ℕ) → length waiting ≡ count * entry_length → length e ≡ entry_length
    → U (tag_name (entry_tag e)) → ((n : List ℕ) → U2 n → U n × (n ≢ tag_name (entry_tag e))) → NamesAre U waiting count used → NamesAre U2 (waiting ++ e) (count + 1) used
names-kept U U2 waiting count used e s h um f v =
    record {
      apart = λ j k g i. (
          let a = old j (omega arith) in
          ⊎_elim
          (λ (q : k < count). rw (a, old k q) (v.apart j k g q))
          (λ (q : count ≤ k). (
          let z : k ≡ count = omega arith in
          rw (a, z, new) (λ y. (v.unseen (tag_name (entry_tag e)) um).1 j (omega arith) (sym y))
          ))
          (below? k count)
          );
      unused = λ k i.
          ⊎_elim
          (λ (q : k < count). rw (old k q) (v.unused k q))
          (λ (q : count ≤ k). (
          let z : k ≡ count = omega arith in
          rw (z, new) (v.unseen (tag_name (entry_tag e)) um).0
          ))
          (below? k count);
      unseen = λ n u. (
        (v.unseen n (f n u).0).0,
        λ k i.
            ⊎_elim
            (λ (q : k < count). rw (old k q) ((v.unseen n (f n u).0).1 k q))
            (λ (q : count ≤ k). (
            let z : k ≡ count = omega arith in
            rw (z, new) (f n u).1
            ))
            (below? k count),
      );
    }
  where
    old : (k : ℕ) → k < count → entry_at (waiting ++ e) k ≡ entry_at waiting k
    old k q = first_entry waiting e count k s q

    new : entry_at (waiting ++ e) count ≡ e
    new = last_entry waiting e count s h

-- the same tags in another region, or the first of them
pub names_in : (U : List ℕ → Type 0) (l d : List ℕ) (n count : ℕ) (used : List (List ℕ)) → length l ≡ n * entry_length → count ≤ n → NamesAre U l n used → NamesAre U (splice d 0 l) count used
unfolding splice
names_in U l d n count used s le v =
    record {
      apart = λ j k g h. rw (at j (omega arith), at k (omega arith)) (v.apart j k g (omega arith));
      unused = λ k h. rw (at k (omega arith)) (v.unused k (omega arith));
      unseen = λ m u. ((v.unseen m u).0, λ k h. rw (at k (omega arith)) ((v.unseen m u).1 k (omega arith)));
    }
  where
    at : (k : ℕ) → k < n → entry_at (l ++ drop (length l) d) k ≡ entry_at l k
    at k h = first_entry l (drop (length l) d) n k s h

-- the names that are none of those used, and none of the first n waiting tags'
abbrev pub Undue : List (List ℕ) → List ℕ → ℕ → List ℕ → Type 0
Undue used waiting n m = NoneOf m used × ((k : ℕ) → k < n → m ≢ name_at waiting k)

-- the next waiting tag's name is such a one
pub next_undue : (U : List ℕ → Type 0) (used : List (List ℕ)) (waiting : List ℕ) (all n : ℕ) → n < all → NamesAre U waiting all used → Undue used waiting n (name_at waiting n)
next_undue U used waiting all n h v = (v.unused n h, λ j g e. v.apart j n g h (sym e))

pub less_undue : (used : List (List ℕ)) (waiting : List ℕ) (n : ℕ) (m : List ℕ) → Undue used waiting (suc n) m → Undue used waiting n m × (m ≢ name_at waiting n)
less_undue used waiting n m u = ((u.0, λ j g. u.1 j (omega arith)), u.1 n (omega arith))

-- ---- clocks

-- no sub-frame's clock goes back
abbrev pub Onward : List ℕ → List ℕ → Type 0
Onward before after = (prn : ℕ) → prn_valid prn ≡ true → last_subframe_of before prn ≤ last_subframe_of after prn

pub newer_before : (before after : List ℕ) → Onward before after → (n : List ℕ) → Newer after n → Newer before n
newer_before before after f n u =
    let a = f _ u.0 in
    let b = u.1 in
    (u.0, omega arith)
