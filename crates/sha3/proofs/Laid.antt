-- The lanes of a block that begins with 64 bytes and ends with the padding's last byte.
-- Assumes nothing.
use mathlib.Core.Path.{◌≡◌, refl, sym, ap, ◌∙◌}
use mathlib.Core.Bool.{cond}
use mathlib.Core.List.{List, [], ◌∷◌, ◌++◌}
use mathlib.Core.Logic.{◌⊎◌, inl, inr, ⊎_elim}
use Prim.Native.Nat.{ℕ, zero, suc, ◌+◌, ◌-◌, ◌*◌, ◌/◌, ◌%◌, ◌^◌, ◌≤◌, ◌<◌}
use native.Mathlib.Omega.{arith}
use lib.Bits.{bit_xor}
use lib.Dec.{eqb}
use lib.ListN.{length, get_or, set, length-set, length-append, length-replicate, get_or-replicate}
use lib.Seq.{ext_get_or, get_or-set_same, get_or-set_other}
use borrow.Author.Tests.{eq-eqb, ne_eqb}
use Rattle.laws.proofs.Splice.{below?}
use Rattle.sha3.specs.Sha3 as S
use Rattle.sha3.proofs.UpTo.{length-up_to, get_or-up_to}
use Rattle.sha3.proofs.Padding.{zs, block_is}

past_end : (b : List ℕ) (t : ℕ) → length b ≤ t → get_or b t 0 ≡ 0
past_end [] t h = refl
past_end (x ∷ b) zero h = absurd (omega arith)
past_end (x ∷ b) (suc t) h = past_end b t (omega arith)

zeros-after : (b : List ℕ) (n t : ℕ) → get_or (b ++ zs n) t 0 ≡ get_or b t 0
zeros-after [] zero t = refl
zeros-after [] (suc n) zero = refl
zeros-after [] (suc n) (suc t) = zeros-after [] n t
zeros-after (x ∷ b) n zero = refl
zeros-after (x ∷ b) n (suc t) = zeros-after b n t

same_lane : (b d : List ℕ) (a : ℕ) → ((t : ℕ) → a ≤ t → t < a + 8 → get_or b t 0 ≡ get_or d t 0) → S.lane_at b a ≡ S.lane_at d a
unfolding S.lane_at
same_lane b d a e =
    rw (
      e a (omega arith) (omega arith),
      e (a + 1) (omega arith) (omega arith),
      e (a + 2) (omega arith) (omega arith),
      e (a + 3) (omega arith) (omega arith),
      e (a + 4) (omega arith) (omega arith),
      e (a + 5) (omega arith) (omega arith),
      e (a + 6) (omega arith) (omega arith),
      e (a + 7) (omega arith) (omega arith),
    )

no_lane : (a : ℕ) → S.lane_at [] a ≡ 0
unfolding S.lane_at
no_lane a = refl

-- a lane of which only the last byte, x, is not 0
last_byte : (d : List ℕ) (a x : ℕ) → ((t : ℕ) → a ≤ t → t < a + 7 → get_or d t 0 ≡ 0) → get_or d (a + 7) 0 ≡ x → S.lane_at d a ≡ x * 256 ^ 7
unfolding S.lane_at
last_byte d a x e f =
    rw (
      e a (omega arith) (omega arith),
      e (a + 1) (omega arith) (omega arith),
      e (a + 2) (omega arith) (omega arith),
      e (a + 3) (omega arith) (omega arith),
      e (a + 4) (omega arith) (omega arith),
      e (a + 5) (omega arith) (omega arith),
      e (a + 6) (omega arith) (omega arith),
      f,
    )
    (omega arith)

-- the lanes of 64 bytes
first_lanes_is : (b : List ℕ) → length b ≡ 64 → {v0 v1 v2 v3 v4 v5 v6 v7 : ℕ}
    → v0 ≡ S.lane_at b 0 → v1 ≡ S.lane_at b 8 → v2 ≡ S.lane_at b 16 → v3 ≡ S.lane_at b 24
    → v4 ≡ S.lane_at b 32 → v5 ≡ S.lane_at b 40 → v6 ≡ S.lane_at b 48 → v7 ≡ S.lane_at b 56
    → v0 ∷ v1 ∷ v2 ∷ v3 ∷ v4 ∷ v5 ∷ v6 ∷ v7 ∷ 0 ∷ 0 ∷ 0 ∷ 0 ∷ 0 ∷ 0 ∷ 0 ∷ 0 ∷ 0 ∷ 0 ∷ 0 ∷ 0 ∷ 0 ∷ 0 ∷ 0 ∷ 0 ∷ 0 ∷ [] ≡ S.lanes b
unfolding S.lanes S.up_to
first_lanes_is b l p0 p1 p2 p3 p4 p5 p6 p7 =
    let z : (a : ℕ) → 64 ≤ a → S.lane_at b a ≡ 0 =
    (λ a h. same_lane b [] a (λ t p q. past_end b t (omega arith)) ∙ no_lane a) in
    rw (p0, p1, p2, p3, p4, p5, p6, p7, z 64 (omega arith), z 72 (omega arith), z 80 (omega arith), z 88 (omega arith), z 96 (omega arith), z 104 (omega arith), z 112 (omega arith), z 120 (omega arith), z 128 (omega arith), z 136 (omega arith), z 144 (omega arith), z 152 (omega arith), z 160 (omega arith), z 168 (omega arith), z 176 (omega arith), z 184 (omega arith), z 192 (omega arith))

-- the same with the last lane of a block, at a rate of 136 or 144
pub block-lanes_are : (b : List ℕ) (r : ℕ) → length b ≡ 64 → 136 ≤ r → r ≤ 144 → r % 8 ≡ 0 → {v0 v1 v2 v3 v4 v5 v6 v7 x y : ℕ}
    → x ≡ cond (eqb r 136) 0x8000000000000000 0 → y ≡ cond (eqb r 144) 0x8000000000000000 0
    → v0 ≡ S.lane_at b 0 → v1 ≡ S.lane_at b 8 → v2 ≡ S.lane_at b 16 → v3 ≡ S.lane_at b 24
    → v4 ≡ S.lane_at b 32 → v5 ≡ S.lane_at b 40 → v6 ≡ S.lane_at b 48 → v7 ≡ S.lane_at b 56
    → v0 ∷ v1 ∷ v2 ∷ v3 ∷ v4 ∷ v5 ∷ v6 ∷ v7 ∷ 0 ∷ 0 ∷ 0 ∷ 0 ∷ 0 ∷ 0 ∷ 0 ∷ 0 ∷ x ∷ y ∷ 0 ∷ 0 ∷ 0 ∷ 0 ∷ 0 ∷ 0 ∷ 0 ∷ []
    ≡ set (S.lanes b) (r / 8 - 1) 0x8000000000000000
block-lanes_are b r l g h m p q p0 p1 p2 p3 p4 p5 p6 p7 =
    ⊎_elim
    (λ (s : r < 137).
    let e : r ≡ 136 = omega arith in
    let f : r / 8 - 1 ≡ 16 = omega arith in
    rw (p, q, eq-eqb r 136 e, ne_eqb r 144 (λ z. omega arith), f) (ap (λ (k : List ℕ). set k 16 0x8000000000000000) (first_lanes_is b l p0 p1 p2 p3 p4 p5 p6 p7)))
    (λ s.
    let e : r ≡ 144 = omega arith in
    let f : r / 8 - 1 ≡ 17 = omega arith in
    rw (p, q, ne_eqb r 136 (λ z. omega arith), eq-eqb r 144 e, f) (ap (λ (k : List ℕ). set k 17 0x8000000000000000) (first_lanes_is b l p0 p1 p2 p3 p4 p5 p6 p7)))
    (below? r 137)

module _ (b : List ℕ) (r : ℕ) (e : length b ≡ 64) (g : 72 ≤ r) (h : r ≤ 200) (m : r % 8 ≡ 0) where
  abbrev d : List ℕ
  d = set (b ++ zs 136) (r - 1) 128

  length_d : length (b ++ zs 136) ≡ 200
  length_d = simp (length-append, length-replicate) (omega arith)

  byte : (t : ℕ) → (t < r - 1) ⊎ (r ≤ t) → get_or d t 0 ≡ get_or b t 0
  byte t c =
      get_or-set_other (b ++ zs 136) (r - 1) t 128 0 (λ x. ⊎_elim (λ y. omega arith) (λ y. omega arith) c)
      ∙ zeros-after b 136 t

  below : (i : ℕ) → i < r / 8 - 1 → S.lane_at b (8 * i) ≡ S.lane_at d (8 * i)
  below i o = same_lane b d (8 * i) (λ t p q. sym (byte t (inl (omega arith))))

  above : (i : ℕ) → r / 8 - 1 < i → S.lane_at b (8 * i) ≡ S.lane_at d (8 * i)
  above i o = same_lane b d (8 * i) (λ t p q. sym (byte t (inr (omega arith))))

  last : (i : ℕ) → i ≡ r / 8 - 1 → S.lane_at d (8 * i) ≡ 0x8000000000000000
  last i o =
      let n : 8 * i + 7 ≡ r - 1 = omega arith in
      last_byte d (8 * i) 128 (λ t p q. byte t (inl (omega arith)) ∙ past_end b t (omega arith))
      (ap (λ (t : ℕ). get_or d t 0) n ∙ get_or-set_same (b ++ zs 136) (r - 1) 128 0 (omega (arith, length_d)))

  -- lane i of the block, added to 0
  added_lane : (i : ℕ) → i < 25 → get_or (S.added (zs 25) (S.lanes d)) i 0 ≡ S.lane_at d (8 * i)
  unfolding S.added S.lanes
  added_lane i o =
      let lanes = S.up_to 25 (λ (j : ℕ). S.lane_at d (8 * j)) in
      get_or-up_to 25 (λ (j : ℕ). bit_xor (get_or (zs 25) j 0) (get_or lanes j 0)) i o
      ∙ rw (get_or-replicate {A = ℕ} 25 i 0 0 o, get_or-up_to 25 (λ (j : ℕ). S.lane_at d (8 * j)) i o)

  lane_of : (i : ℕ) → i < 25 → get_or (S.lanes b) i 0 ≡ S.lane_at b (8 * i)
  unfolding S.lanes
  lane_of i o = get_or-up_to 25 (λ (j : ℕ). S.lane_at b (8 * j)) i o

  length_lanes : length (S.lanes b) ≡ 25
  unfolding S.lanes
  length_lanes = length-up_to 25 _

  length_added : (t : List ℕ) → length (S.added (zs 25) t) ≡ 25
  unfolding S.added
  length_added t = length-up_to 25 _

  pub block_lanes : set (S.lanes b) (r / 8 - 1) 0x8000000000000000 ≡ S.added (zs 25) (S.lanes ((b ++ (zs (r - 65) ++ (0x80 ∷ []))) ++ zs (200 - r)))
  block_lanes =
      let j = r / 8 - 1 in
      let v : ℕ = 0x8000000000000000 in
      let x = S.lanes b in
      let k : length (set x j v) ≡ 25 = simp length-set length_lanes in
      ext_get_or 0 (set x j v) (S.added (zs 25) (S.lanes d)) (k ∙ sym (length_added (S.lanes d)))
      (λ i o.
      let n : i < 25 = omega arith in
      ⊎_elim
      (λ c. get_or-set_other x j i v 0 (λ y. omega arith) ∙ lane_of i n ∙ below i c ∙ sym (added_lane i n))
      (λ c.
      ⊎_elim
      (λ a. get_or-set_other x j i v 0 (λ y. omega arith) ∙ lane_of i n ∙ above i a ∙ sym (added_lane i n))
      (λ a.
      let q : i ≡ j = omega arith in
      ap (λ (t : ℕ). get_or (set x j v) t 0) q ∙ get_or-set_same x j v 0 (omega (arith, length_lanes)) ∙ sym (added_lane i n ∙ last i q))
      (below? j i))
      (below? i j))
      ∙ ap (λ (y : List ℕ). S.added (zs 25) (S.lanes y)) (block_is b r e (omega arith) h)
