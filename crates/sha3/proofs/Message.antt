-- A message absorbed block by block, at any rate.
-- Assumes nothing.
use mathlib.Core.Path.{◌≡◌, refl, sym, ap, ◌∙◌}
use mathlib.Core.List.{List, [], ◌∷◌, ◌++◌, append_assoc, append-nil}
use Prim.Native.Nat.{ℕ, zero, suc, ◌+◌, ◌-◌, ◌*◌, ◌/◌, ◌%◌, ◌≤◌, ◌<◌}
use native.Mathlib.Nat.{mul-le-mul_left, suc-mul, mul-div_cancel, mul-add-mod_self_right, mod-eq_of_lt, div-eq_of_lt-le}
use native.Mathlib.Numerals.{add-one}
use native.Mathlib.Omega.{arith}
use lib.ListN.{length, take, drop, length-append, length-drop, length-set}
use lib.Seq.{take_all, take-take, drop-append-le, length-take-le}
use Rattle.laws.specs.Lists.{part}
use Rattle.laws.proofs.Splice.{part_first, length_part}
use Rattle.sha3.specs.Sha3 as S
use Rattle.sha3.proofs.UpTo.{length-up_to}
use Rattle.sha3.proofs.Padding.{zs, length-padding}

pub at_first : (r : ℕ) (p : List ℕ) → zs 25 ≡ S.absorbed r p 0
unfolding S.absorbed
at_first r p = refl

-- the places of the blocks
pub inside : (r n i : ℕ) → 0 < r → i < n / r → i * r + r ≤ n
inside r n i g h = omega (arith, mul-le-mul_left r h)

module _ (r : ℕ) (m : List ℕ) (at i : ℕ) (a : at ≡ i * r) where
  block_inside : at + r ≤ length m → part m at r ≡ S.block r (S.padded r m) i
  unfolding S.block S.padded
  block_inside h = sym (part_first m (S.padding (r - length m % r)) at r h) ∙ rw a

  -- the message ends in block i
  module _ (h : at ≤ length m) (k : length m - at < r) where
    left_over : length m % r ≡ length m - at
    left_over =
        let e : length m ≡ i * r + (length m - at) = omega arith in
        ap (λ (n : ℕ). n % r) e ∙ mul-add-mod_self_right i r (length m - at) ∙ mod-eq_of_lt k

    length_last : length (drop at m ++ S.padding (r - (length m - at))) ≡ r
    length_last = length-append (drop at m) (S.padding (r - (length m - at))) ∙ rw (length-drop at m, length-padding (r - (length m - at))) (omega arith)

    block_last : drop at m ++ S.padding (r - (length m - at)) ≡ S.block r (S.padded r m) i
    unfolding S.block S.padded part
    block_last =
        rw (left_over, ← a, drop-append-le at m (S.padding (r - (length m - at))) h)
        (sym (take_all r (drop at m ++ S.padding (r - (length m - at))) (omega (arith, length_last))))

    blocks : length (S.padded r m) / r ≡ suc i
    unfolding S.padded
    blocks =
        let n : length (m ++ S.padding (r - length m % r)) ≡ suc i * r =
        length-append m (S.padding (r - length m % r)) ∙ rw (length-padding (r - length m % r), left_over, suc-mul i r, ← a) (omega arith) in
        rw n (mul-div_cancel (suc i) (omega arith))

module _ (r : ℕ) (m s d v : List ℕ) where
  -- the state v after s by the block b, which stands in d with zeros after it
  next : (b : List ℕ) (i : ℕ) → length b ≡ r → b ≡ S.block r (S.padded r m) i → s ≡ S.absorbed r (S.padded r m) i → d ≡ b ++ zs (200 - r)
      → v ≡ S.keccak_f (S.added s (S.lanes d)) → v ≡ S.absorbed r (S.padded r m) (suc i)
  unfolding S.absorbed S.absorb
  next b i n e p f q = q ∙ rw (f, p, ← e, n)

  -- by a block inside the message
  pub one_more : (i : ℕ) → i * r + r ≤ length m → s ≡ S.absorbed r (S.padded r m) i → d ≡ part m (i * r) r ++ zs (200 - r)
      → v ≡ S.keccak_f (S.added s (S.lanes d)) → v ≡ S.absorbed r (S.padded r m) (i + 1)
  one_more i h z p q = rw add-one (next (part m (i * r) r) i (length_part m (i * r) r h) (block_inside r m (i * r) i refl h) z p q)

  -- by the last block
  pub all_blocks : (at i : ℕ) → at ≡ i * r → at ≤ length m → length m - at < r → s ≡ S.absorbed r (S.padded r m) i
      → d ≡ drop at m ++ (S.padding (r - (length m - at)) ++ zs (200 - r)) → v ≡ S.keccak_f (S.added s (S.lanes d))
      → v ≡ S.absorbed r (S.padded r m) (length (S.padded r m) / r)
  all_blocks at i a h k z p q =
      let x = drop at m in
      let y = S.padding (r - (length m - at)) in
      next (x ++ y) i (length_last r m at i a h k) (block_last r m at i a h k) z (p ∙ sym (append_assoc x y (zs (200 - r)))) q
      ∙ ap (S.absorbed r (S.padded r m)) (sym (blocks r m at i a h k))

-- n bytes of the sponge, where a state has as many
pub squeezed_is : (r n : ℕ) (m v : List ℕ) → 0 < n → n ≤ r → v ≡ S.absorbed r (S.padded r m) (length (S.padded r m) / r)
    → take n (S.bytes v) ≡ S.sponge r m n
unfolding S.sponge S.squeezed
squeezed_is r n m v g h p =
    let e : (n + (r - 1)) / r ≡ 1 = div-eq_of_lt-le r (omega arith) (omega arith) in
    rw (e, ← p, append-nil (take r (S.bytes v)), take-take n r (S.bytes v) h)

-- a shorter result is the start of a longer one
pub shorter : (r n k : ℕ) (m : List ℕ) → 0 < k → k ≤ n → n ≤ r → take k (S.sponge r m n) ≡ S.sponge r m k
shorter r n k m g h l =
    let v = S.absorbed r (S.padded r m) (length (S.padded r m) / r) in
    ap (take k) (sym (squeezed_is r n m v (omega arith) l refl)) ∙ take-take k n (S.bytes v) h ∙ squeezed_is r k m v g (omega arith) refl

-- ---- lengths

length-keccak_f : (s : List ℕ) → length (S.keccak_f s) ≡ 25
unfolding S.keccak_f S.rounds S.round S.steps S.ι S.χ S.state
length-keccak_f s = simp length-set (length-up_to 25 _)

length-absorbed : (r : ℕ) (p : List ℕ) (n : ℕ) → length (S.absorbed r p n) ≡ 25
unfolding S.absorbed S.absorb
length-absorbed r p zero = refl
length-absorbed r p (suc n) = length-keccak_f _

length-bytes : (s : List ℕ) → length (S.bytes s) ≡ 8 * length s
unfolding S.bytes S.lane_bytes
length-bytes [] = refl
length-bytes (x ∷ s) = omega (arith, length-bytes s)

pub length-sponge : (r n : ℕ) (m : List ℕ) → 0 < n → n ≤ r → r ≤ 200 → length (S.sponge r m n) ≡ n
length-sponge r n m g h l =
    let k = length (S.padded r m) / r in
    let v = S.absorbed r (S.padded r m) k in
    ap length (sym (squeezed_is r n m v g h refl))
    ∙ length-take-le n (S.bytes v) (omega (arith, length-bytes v, length-absorbed r (S.padded r m) k))
