-- Decimal digits: the bound of `digits_of` does not matter once it suffices, and a number is written from its last digit to its first, at the end
-- of twenty bytes. Assumes nothing.
use mathlib.Core.Path.{◌≡◌, refl, sym, ap, subst, ◌∙◌}
use mathlib.Core.List.{List, [], ◌∷◌, ◌++◌, append_assoc}
use Prim.Native.Nat.{ℕ, zero, suc, ◌-◌, ◌*◌, ◌/◌, ◌%◌, ◌^◌, ◌≤◌, ◌<◌}
use native.Mathlib.Omega.{arith}
use native.Mathlib.Nat.{pow-suc}
use lib.ListN.{length, take, drop, set, length-drop, length-set, drop_of_length-le}
use lib.Seq.{set_split, drop_at, take_all, length-take-le}
use borrow.Author.Tests.{ne_eqb}
use Rattle.laws.specs.Lists.{part}
use Rattle.rules.specs.Replay.{digit, digits_of, decimal}

none_of : (k : ℕ) → digits_of k 0 ≡ []
unfolding digits_of
none_of zero = refl
none_of (suc k) = refl

enough : (k j n : ℕ) → n ≤ k → n ≤ j → digits_of k n ≡ digits_of j n
unfolding digits_of
enough zero j n h g = let e : n ≡ 0 = omega arith in rw e (sym (none_of j))
enough (suc k) zero n h g = let e : n ≡ 0 = omega arith in rw e (none_of (suc k))
enough (suc k) (suc j) n h g = rw (enough k j (n / 10) (omega arith) (omega arith))

-- the digits of n, none for 0
abbrev pub digits : ℕ → List ℕ
digits n = digits_of n n

digits_more : (n : ℕ) → 0 < n → digits n ≡ digits (n / 10) ++ (digit (n % 10) ∷ [])
unfolding digits_of
digits_more zero h = absurd (omega arith)
digits_more (suc k) h = rw (ne_eqb (suc k) 0 (omega arith), enough k (suc k / 10) (suc k / 10) (omega arith) (omega arith))

pub decimal_last : (n : ℕ) → decimal n ≡ digits (n / 10) ++ (digit (n % 10) ∷ [])
unfolding decimal
decimal_last n = rw (enough n (n / 10) (n / 10) (omega arith) (omega arith))

drop-set_here : (l : List ℕ) (j v : ℕ) → j < length l → drop j (set l j v) ≡ v ∷ drop (suc j) l
drop-set_here l j v h = rw (set_split l j v h) (drop_at (take j l) (v ∷ drop (suc j) l) j (length-take-le j l (omega arith)))

-- ---- twenty bytes, of which those from place i on are written, and the number that is left to write

pub record Spelt (n : ℕ) (text : List ℕ) (i rest : ℕ) : Type 0 where
  pub long : length text ≡ 20
  pub low : i ≤ 19
  pub small : rest < 10 ^ i
  pub so_far : decimal n ≡ digits rest ++ drop i text

pub begun : (n : ℕ) (text : List ℕ) → n < 2 ^ 64 → length text ≡ 20 → Spelt n (set text 19 (digit (n % 10))) 19 (n / 10)
begun n text h e =
    let none : drop 20 text ≡ [] = drop_of_length-le text {i = 20} (omega arith) in
    record {
      long = simp length-set e;
      low = omega arith;
      small = omega arith;
      so_far = decimal_last n ∙ ap (λ (l : List ℕ). digits (n / 10) ++ l) (sym (drop-set_here text 19 (digit (n % 10)) (omega arith) ∙ ap (λ (l : List ℕ). digit (n % 10) ∷ l) none));
    }

left : (i r : ℕ) → r < 10 ^ i → 0 < r → 0 < i
left zero r h g = absurd (omega arith)
left (suc i) r h g = omega arith

pub place_left : (n : ℕ) (text : List ℕ) (i rest : ℕ) → Spelt n text i rest → 0 < rest → 0 < i
place_left n text i rest s h = left i rest s.small h

tenth : (j r : ℕ) → r < 10 ^ suc j → r / 10 < 10 ^ j
tenth j r h = let k : r < 10 ^ j * 10 = rw pow-suc at h in omega arith

spelt_more : (n : ℕ) (text : List ℕ) (j rest : ℕ) → Spelt n text (suc j) rest → 0 < rest → Spelt n (set text j (digit (rest % 10))) j (rest / 10)
spelt_more n text j rest s h =
    let e = s.long in
    let lo = s.low in
    record {
      long = simp length-set e;
      low = omega arith;
      small = tenth j rest s.small;
      so_far = s.so_far ∙ rw (digits_more rest h, append_assoc, drop-set_here text j (digit (rest % 10)) (omega arith));
    }

pub one_more : (n : ℕ) (text : List ℕ) (i rest : ℕ) → Spelt n text i rest → 0 < rest → Spelt n (set text (i - 1) (digit (rest % 10))) (i - 1) (rest / 10)
one_more n text i rest s h =
    let e : i ≡ suc (i - 1) = omega (arith, place_left n text i rest s h) in
    spelt_more n text (i - 1) rest (subst (λ (k : ℕ). Spelt n text k rest) e s) h

pub spelt : (n : ℕ) (text : List ℕ) (i rest : ℕ) → Spelt n text i rest → rest ≡ 0 → decimal n ≡ part text i (20 - i)
unfolding digits_of part
spelt n text i rest s z =
    let e = s.long in
    let lo = s.low in
    s.so_far ∙ rw z (sym (take_all (20 - i) (drop i text) (simp length-drop (omega arith))))
