-- Lanes kept inverted: χ of a state some of whose lanes are inverted, and rounds on a masked state.
-- Assumes nothing.
use mathlib.Core.Path.{◌≡◌, refl, sym, ap, ap₂, ◌∙◌}
use mathlib.Core.List.{List, [], ◌∷◌}
use Prim.Native.Nat.{ℕ, zero, suc, ◌+◌, ◌-◌, ◌*◌, ◌/◌, ◌%◌, ◌^◌, ◌<◌}
use native.Mathlib.Numerals.{add-one}
use native.Mathlib.Omega.{arith}
use lib.Bits.{bit_and, bit_or, bit_xor, xor_comm, xor_self, xor_zero_r, and_shr, and_mod, or_shr, or_mod}
use lib.ListN.{length, get_or, set, length-set}
use lib.Pow.{ones_split, pow-add}
use Rattle.laws.proofs.Bits.{by_digits, on_digits, xor_half, xor_last, xor_assoc}
use Rattle.laws.proofs.Elements.{written_out}
use Rattle.sha3.specs.Sha3 as S
use Rattle.sha3.specs.Mask as K
use Rattle.sha3.proofs.UpTo.{length-up_to, get_or-up_to, same-up_to}
use Rattle.sha3.proofs.Linear.{linear}

-- ---- laws of a lane

same : (x : ℕ) → x ≡ bit_xor x 0
same x = sym (xor_zero_r x)

twice : (x m : ℕ) → bit_xor (bit_xor x m) m ≡ x
twice x m = xor_assoc x m m ∙ ap (bit_xor x) (xor_self m) ∙ xor_zero_r x

back : (x : ℕ) → bit_xor (bit_xor x S.ones) S.ones ≡ bit_xor x 0
back x = twice x S.ones ∙ same x

swap : (x y z : ℕ) → bit_xor (bit_xor x y) z ≡ bit_xor (bit_xor x z) y
swap x y z = xor_assoc x y z ∙ ap (bit_xor x) (xor_comm y z) ∙ sym (xor_assoc x z y)

first_inverted : (x y : ℕ) → bit_xor x (bit_xor y S.ones) ≡ bit_xor (bit_xor x S.ones) y
first_inverted x y = sym (xor_assoc x y S.ones) ∙ swap x y S.ones

-- De Morgan's law, for numbers of k bits
or_is : (k x y : ℕ) → x < 2 ^ k → y < 2 ^ k → bit_or x y ≡ bit_xor (bit_and (bit_xor x (2 ^ k - 1)) (bit_xor y (2 ^ k - 1))) (2 ^ k - 1)
or_is zero x y h l =
    let e : x ≡ 0 = omega arith in
    let f : y ≡ 0 = omega arith in
    rw (e, f)
or_is (suc k) x y h l =
    let m = 2 ^ suc k - 1 in
    let n = 2 ^ k - 1 in
    let e : m ≡ n * 2 + 1 = rw add-one at (ones_split k 1) in
    let w : 2 ^ suc k ≡ 2 ^ k * 2 = rw add-one at (pow-add 2 k 1) in
    let hx : x / 2 < 2 ^ k = omega arith in
    let hy : y / 2 < 2 ^ k = omega arith in
    let half : m / 2 ≡ n = omega arith in
    let last : m % 2 ≡ 1 = omega arith in
    by_digits
    (or_shr x y 1 ∙ or_is k (x / 2) (y / 2) hx hy
    ∙ sym (xor_half (bit_and (bit_xor x m) (bit_xor y m)) m
    ∙ ap₂ bit_xor (and_shr (bit_xor x m) (bit_xor y m) 1 ∙ ap₂ bit_and (xor_half x m ∙ ap (bit_xor (x / 2)) half) (xor_half y m ∙ ap (bit_xor (y / 2)) half)) half))
    (or_mod x y 1
    ∙ on_digits (λ a b c. bit_or a b ≡ bit_xor (bit_and (bit_xor a 1) (bit_xor b 1)) 1) refl refl refl refl refl refl refl refl x y 0
    ∙ sym (xor_last (bit_and (bit_xor x m) (bit_xor y m)) m
    ∙ ap₂ bit_xor (and_mod (bit_xor x m) (bit_xor y m) 1 ∙ ap₂ bit_and (xor_last x m ∙ ap (bit_xor (x % 2)) last) (xor_last y m ∙ ap (bit_xor (y % 2)) last)) last))

abbrev either : ℕ → ℕ → ℕ
either x y = S.inverted (bit_and (S.inverted x) (S.inverted y))

pub either_is : (x y : ℕ) → x < 2 ^ 64 → y < 2 ^ 64 → bit_or x y ≡ either x y
unfolding S.inverted
either_is = or_is 64

-- ---- χ

-- the mask before χ
abbrev moved : List ℕ
moved = S.ones ∷ 0 ∷ S.ones ∷ S.ones ∷ 0 ∷ S.ones ∷ 0 ∷ S.ones ∷ 0 ∷ 0 ∷ S.ones ∷ 0 ∷ S.ones ∷ 0 ∷ 0 ∷ 0 ∷ S.ones ∷ 0 ∷ S.ones ∷ S.ones ∷ S.ones ∷ 0 ∷ 0 ∷ S.ones ∷ 0 ∷ []

moved_is : K.moved_mask ≡ moved
unfolding K.moved_mask K.mask S.π S.ρ S.θ S.applied S.effects S.columns S.rotl S.state S.up_to S.at S.offsets S.visited
moved_is = refl

-- what χ makes of the lanes a, b and c of s, which are masked
abbrev lane : List ℕ → ℕ → ℕ → ℕ → ℕ
lane s a b c =
    bit_xor (bit_xor (get_or s a 0) (get_or moved a 0)) (bit_and (bit_xor (bit_xor (get_or s b 0) (get_or moved b 0)) S.ones) (bit_xor (get_or s c 0) (get_or moved c 0)))

module _ (s : List ℕ) (a b c : ℕ) where
  abbrev p : ℕ
  p = get_or moved a 0

  abbrev w : ℕ
  w = get_or K.mask a 0

  and_lane : {x y z : ℕ} → x ≡ bit_xor (get_or s a 0) (bit_xor p w) → y ≡ bit_xor (get_or s b 0) (bit_xor (get_or moved b 0) S.ones)
      → z ≡ bit_xor (get_or s c 0) (get_or moved c 0) → bit_xor x (bit_and y z) ≡ bit_xor (lane s a b c) w
  and_lane {x} {y} {z} e f g =
      ap₂ bit_xor (e ∙ sym (xor_assoc (get_or s a 0) p w)) (ap₂ bit_and (f ∙ sym (xor_assoc (get_or s b 0) (get_or moved b 0) S.ones)) g)
      ∙ swap (bit_xor (get_or s a 0) p) w _

  or_lane : (x y z : ℕ) {v : ℕ} → v ≡ either y z → bit_xor x S.ones ≡ bit_xor (get_or s a 0) (bit_xor p w)
      → bit_xor y S.ones ≡ bit_xor (get_or s b 0) (bit_xor (get_or moved b 0) S.ones)
      → bit_xor z S.ones ≡ bit_xor (get_or s c 0) (get_or moved c 0)
      → bit_xor x v ≡ bit_xor (lane s a b c) w
  unfolding S.inverted
  or_lane x y z h e f g =
      ap (bit_xor x) h ∙ first_inverted x (bit_and (bit_xor y S.ones) (bit_xor z S.ones)) ∙ and_lane e f g

with_constant : (x k : ℕ) {y : ℕ} → y ≡ bit_xor x 0 → bit_xor y k ≡ bit_xor (bit_xor x k) 0
with_constant x k e = ap (λ (z : ℕ). bit_xor z k) e ∙ swap x 0 k

also : {x y : ℕ} {l m : List ℕ} → x ≡ y → l ≡ m → x ∷ l ≡ y ∷ m
also e f = ap₂ (λ (z : ℕ) (n : List ℕ). z ∷ n) e f

module _ (s : List ℕ) (k : ℕ) where
  abbrev l : ℕ → ℕ
  l i = get_or s i 0

  abbrev n : ℕ → ℕ
  n i = bit_xor (get_or s i 0) S.ones

  pub chi_is : {v1 v2 v3 v4 v5 v6 v7 v8 v9 v10 v11 v12 v13 : ℕ}
      → v1 ≡ either (l 1) (l 2) → v2 ≡ either (n 2) (l 3) → v3 ≡ either (l 4) (l 0)
      → v4 ≡ either (l 6) (l 7) → v5 ≡ either (l 8) (n 9) → v6 ≡ either (l 9) (l 5)
      → v7 ≡ either (l 11) (l 12) → v8 ≡ either (l 14) (l 10) → v9 ≡ either (l 17) (l 18)
      → v10 ≡ either (n 18) (l 19) → v11 ≡ either (l 15) (l 16) → v12 ≡ either (l 22) (l 23)
      → v13 ≡ either (l 24) (l 20)
      → bit_xor (bit_xor (l 0) v1) k ∷
      bit_xor (l 1) v2 ∷
      bit_xor (l 2) (bit_and (l 3) (l 4)) ∷
      bit_xor (l 3) v3 ∷
      bit_xor (l 4) (bit_and (l 0) (l 1)) ∷
      bit_xor (l 5) v4 ∷
      bit_xor (l 6) (bit_and (l 7) (l 8)) ∷
      bit_xor (l 7) v5 ∷
      bit_xor (l 8) v6 ∷
      bit_xor (l 9) (bit_and (l 5) (l 6)) ∷
      bit_xor (l 10) v7 ∷
      bit_xor (l 11) (bit_and (l 12) (l 13)) ∷
      bit_xor (l 12) (bit_and (n 13) (l 14)) ∷
      bit_xor (n 13) v8 ∷
      bit_xor (l 14) (bit_and (l 10) (l 11)) ∷
      bit_xor (l 15) (bit_and (l 16) (l 17)) ∷
      bit_xor (l 16) v9 ∷
      bit_xor (l 17) v10 ∷
      bit_xor (n 18) (bit_and (l 19) (l 15)) ∷
      bit_xor (l 19) v11 ∷
      bit_xor (l 20) (bit_and (n 21) (l 22)) ∷
      bit_xor (n 21) v12 ∷
      bit_xor (l 22) (bit_and (l 23) (l 24)) ∷
      bit_xor (l 23) v13 ∷
      bit_xor (l 24) (bit_and (l 20) (l 21)) ∷ []
      ≡ K.masked (S.ι (S.χ (S.added s K.moved_mask)) k)
  unfolding K.masked K.mask S.ι S.χ S.added S.inverted S.state S.up_to S.at
  chi_is p1 p2 p3 p4 p5 p6 p7 p8 p9 p10 p11 p12 p13 =
      rw moved_is (also (with_constant (lane s 0 1 2) k (or_lane s 0 1 2 (l 0) (l 1) (l 2) p1 refl refl refl))
      (also (or_lane s 1 2 3 (l 1) (n 2) (l 3) p2 refl (back (l 2)) refl)
      (also (and_lane s 2 3 4 (same (l 2)) (same (l 3)) (same (l 4)))
      (also (or_lane s 3 4 0 (l 3) (l 4) (l 0) p3 refl refl refl)
      (also (and_lane s 4 0 1 (same (l 4)) (same (l 0)) (same (l 1)))
      (also (or_lane s 5 6 7 (l 5) (l 6) (l 7) p4 refl refl refl)
      (also (and_lane s 6 7 8 (same (l 6)) (same (l 7)) (same (l 8)))
      (also (or_lane s 7 8 9 (l 7) (l 8) (n 9) p5 refl refl (back (l 9)))
      (also (or_lane s 8 9 5 (l 8) (l 9) (l 5) p6 refl refl refl)
      (also (and_lane s 9 5 6 (same (l 9)) (same (l 5)) (same (l 6)))
      (also (or_lane s 10 11 12 (l 10) (l 11) (l 12) p7 refl refl refl)
      (also (and_lane s 11 12 13 (same (l 11)) (same (l 12)) (same (l 13)))
      (also (and_lane s 12 13 14 (same (l 12)) refl (same (l 14)))
      (also (or_lane s 13 14 10 (n 13) (l 14) (l 10) p8 (back (l 13)) refl refl)
      (also (and_lane s 14 10 11 (same (l 14)) (same (l 10)) (same (l 11)))
      (also (and_lane s 15 16 17 (same (l 15)) (same (l 16)) (same (l 17)))
      (also (or_lane s 16 17 18 (l 16) (l 17) (l 18) p9 refl refl refl)
      (also (or_lane s 17 18 19 (l 17) (n 18) (l 19) p10 refl (back (l 18)) refl)
      (also (and_lane s 18 19 15 refl (same (l 19)) (same (l 15)))
      (also (or_lane s 19 15 16 (l 19) (l 15) (l 16) p11 refl refl refl)
      (also (and_lane s 20 21 22 (same (l 20)) refl (same (l 22)))
      (also (or_lane s 21 22 23 (n 21) (l 22) (l 23) p12 (back (l 21)) refl refl)
      (also (and_lane s 22 23 24 (same (l 22)) (same (l 23)) (same (l 24)))
      (also (or_lane s 23 24 20 (l 23) (l 24) (l 20) p13 refl refl refl)
      (also (and_lane s 24 20 21 (same (l 24)) (same (l 20)) (same (l 21)))
      refl)))))))))))))))))))))))))

-- ---- rounds on a masked state

sums_of_mask : (s : List ℕ)
    → get_or s 0 0 ∷ bit_xor (get_or s 1 0) S.ones ∷ bit_xor (get_or s 2 0) S.ones ∷ get_or s 3 0 ∷ get_or s 4 0 ∷ get_or s 5 0 ∷ get_or s 6 0 ∷ get_or s 7 0 ∷ bit_xor (get_or s 8 0) S.ones ∷ get_or s 9 0 ∷ get_or s 10 0 ∷ get_or s 11 0 ∷ bit_xor (get_or s 12 0) S.ones ∷ get_or s 13 0 ∷ get_or s 14 0 ∷ get_or s 15 0 ∷ get_or s 16 0 ∷ bit_xor (get_or s 17 0) S.ones ∷ get_or s 18 0 ∷ get_or s 19 0 ∷ bit_xor (get_or s 20 0) S.ones ∷ get_or s 21 0 ∷ get_or s 22 0 ∷ get_or s 23 0 ∷ get_or s 24 0 ∷ [] ≡ K.masked s
unfolding K.masked K.mask S.added S.up_to
sums_of_mask s = simp xor_zero_r

-- six lanes inverted one after the other
abbrev pub inverted_at : List ℕ → ℕ → List ℕ
inverted_at s i = set s i (bit_xor (get_or s i 0) S.ones)

pub masked_is : (s : List ℕ) → length s ≡ 25 → inverted_at (inverted_at (inverted_at (inverted_at (inverted_at (inverted_at s 1) 2) 8) 12) 17) 20 ≡ K.masked s
masked_is s e = ap (λ (l : List ℕ). inverted_at (inverted_at (inverted_at (inverted_at (inverted_at (inverted_at l 1) 2) 8) 12) 17) 20) (written_out 25 s e) ∙ sums_of_mask s

listed : (s : List ℕ) → length s ≡ 25 → S.up_to 25 (λ (i : ℕ). get_or s i 0) ≡ s
unfolding S.up_to
listed s e = sym (written_out 25 s e)

θ-is : (s : List ℕ) {c d : List ℕ} → c ≡ S.columns s → d ≡ S.effects c → S.π (S.ρ (S.applied s d)) ≡ S.π (S.ρ (S.θ s))
unfolding S.θ
θ-is s p q = rw (q, p)

before_χ : (s : List ℕ) → S.π (S.ρ (S.θ (K.masked s))) ≡ S.added (S.π (S.ρ (S.θ s))) K.moved_mask
unfolding K.masked K.moved_mask
before_χ s = linear s K.mask

pub unmasked : (s : List ℕ) → length s ≡ 25 → K.masked (K.masked s) ≡ s
unfolding K.masked S.added
unmasked s e =
    same-up_to 25 _ (λ (i : ℕ). get_or s i 0)
    (λ i h. ap (λ (x : ℕ). bit_xor x (get_or K.mask i 0)) (get_or-up_to 25 (λ (j : ℕ). bit_xor (get_or s j 0) (get_or K.mask j 0)) i h) ∙ twice (get_or s i 0) (get_or K.mask i 0))
    ∙ listed s e

pub length-masked : (s : List ℕ) → length (K.masked s) ≡ 25
unfolding K.masked S.added
length-masked s = length-up_to 25 _

pub length-steps : (s : List ℕ) (k : ℕ) → length (S.steps s k) ≡ 25
unfolding S.steps S.ι S.χ S.state
length-steps s k = simp length-set (length-up_to 25 _)

-- from what the calls of a round give
round_is : (s : List ℕ) (k : ℕ) {c d m v : List ℕ} → c ≡ S.columns s → d ≡ S.effects c → m ≡ S.π (S.ρ (S.applied s d))
    → v ≡ K.masked (S.ι (S.χ (S.added m K.moved_mask)) k) → v ≡ K.masked (S.steps (K.masked s) k)
unfolding S.steps
round_is s k {m = m} p q r o =
    let e : m ≡ S.π (S.ρ (S.θ s)) = r ∙ θ-is s p q in
    o ∙ ap (λ (b : List ℕ). K.masked (S.ι (S.χ b) k)) (ap (λ (b : List ℕ). S.added b K.moved_mask) e ∙ sym (before_χ s))

pub two_rounds_is : (s : List ℕ) (j k : ℕ) {c d m t e f n v : List ℕ} → c ≡ S.columns s → d ≡ S.effects c → m ≡ S.π (S.ρ (S.applied s d))
    → t ≡ K.masked (S.ι (S.χ (S.added m K.moved_mask)) j)
    → e ≡ S.columns t → f ≡ S.effects e → n ≡ S.π (S.ρ (S.applied t f))
    → v ≡ K.masked (S.ι (S.χ (S.added n K.moved_mask)) k) → v ≡ K.masked (S.steps (S.steps (K.masked s) j) k)
two_rounds_is s j k {t = t} p1 p2 p3 p4 q1 q2 q3 q4 =
    let x = S.steps (K.masked s) j in
    let g : K.masked t ≡ x = ap K.masked (round_is s j p1 p2 p3 p4) ∙ unmasked x (length-steps (K.masked s) j) in
    round_is t k q1 q2 q3 q4 ∙ ap (λ (y : List ℕ). K.masked (S.steps y k)) g
