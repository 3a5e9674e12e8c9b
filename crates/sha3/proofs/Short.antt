-- For callers: the length of a digest; and a message of at most 63 bytes is one block, whose first 64 bytes are the message, the byte 6 and zeros.
-- Assumes nothing.
use mathlib.Core.Path.{◌≡◌, refl, sym, ap, ◌∙◌}
use mathlib.Core.List.{List, [], ◌∷◌, ◌++◌, append_assoc}
use Prim.Native.Nat.{ℕ, ◌-◌, ◌/◌, ◌%◌, ◌≤◌, ◌<◌}
use native.Mathlib.Nat.{zero-mul}
use native.Mathlib.Omega.{arith}
use lib.ListN.{length, set, take, length-append, length-replicate}
use lib.Seq.{take-take}
use Rattle.sha3.specs.Sha3 as S
use Rattle.sha3.proofs.Padding.{zs, short_padding, length-padding}
use Rattle.sha3.proofs.Laid.{block_lanes}
use Rattle.sha3.proofs.Message.{at_first, all_blocks, squeezed_is, shorter, length-sponge}

-- from what the code does
pub one_block_is : (b : List ℕ) (r : ℕ) {f v x : List ℕ} → length b ≡ 64 → 72 ≤ r → r ≤ 200 → r % 8 ≡ 0 → f ≡ set (S.lanes b) (r / 8 - 1) 0x8000000000000000
    → v ≡ S.keccak_f f → x ≡ take 32 (S.bytes v) → x ≡ S.one_block r b
unfolding S.one_block S.absorb
one_block_is b r e g h m p q o =
    let n : length (b ++ (zs (r - 65) ++ (0x80 ∷ []))) ≡ r = simp (length-append, length-replicate) (omega arith) in
    let l : set (S.lanes b) (r / 8 - 1) 0x8000000000000000 ≡ S.added (zs 25) (S.lanes ((b ++ (zs (r - 65) ++ (0x80 ∷ []))) ++ zs (200 - r))) =
    block_lanes b r e g h m in
    o ∙ ap (λ (y : List ℕ). take 32 (S.bytes y)) (q ∙ rw (p, l, n))

module _ (m : List ℕ) (r : ℕ) (l : length m ≤ 63) (g : 65 ≤ r) where
  abbrev block : List ℕ
  block = m ++ (6 ∷ zs (63 - length m))

  one_block : S.one_block r block ≡ S.sponge r m 32
  unfolding S.one_block S.absorb
  one_block =
      let y = m ++ S.padding (r - length m) in
      let e : block ++ (zs (r - 65) ++ (0x80 ∷ [])) ≡ y = short_padding m r l g in
      let n : length y ≡ r = length-append m (S.padding (r - length m)) ∙ rw (length-padding (r - length m)) (omega arith) in
      let z : r - length m ≡ r - (length m - 0) = omega arith in
      let v = S.keccak_f (S.added (zs 25) (S.lanes (y ++ zs (200 - r)))) in
      rw (e, n)
      (squeezed_is r 32 m v (omega arith) (omega arith)
      (all_blocks r m (zs 25) (y ++ zs (200 - r)) v 0 0 (sym (zero-mul r)) (omega arith) (omega arith) (at_first r (S.padded r m)) (append_assoc m (S.padding (r - length m)) (zs (200 - r)) ∙ ap (λ (k : ℕ). m ++ (S.padding k ++ zs (200 - r))) z) refl))

  -- of a digest of n bytes, the first k
  pub short : (k n : ℕ) → 0 < n → k ≤ n → n ≤ 32 → take k (S.one_block r block) ≡ take k (S.sponge r m n)
  short k n o h j =
      ap (take k) one_block ∙ sym (take-take k n (S.sponge r m 32) h) ∙ ap (take k) (shorter r 32 n m o j (omega arith))

pub short_224 : (m : List ℕ) (k : ℕ) → length m ≤ 63 → k ≤ 28 → take k (S.one_block 144 (m ++ (6 ∷ zs (63 - length m)))) ≡ take k (S.sha3_224 m)
unfolding S.sha3_224
short_224 m k l h = short m 144 l (omega arith) k 28 (omega arith) h (omega arith)

pub short_256 : (m : List ℕ) (k : ℕ) → length m ≤ 63 → k ≤ 32 → take k (S.one_block 136 (m ++ (6 ∷ zs (63 - length m)))) ≡ take k (S.sha3_256 m)
unfolding S.sha3_256
short_256 m k l h = short m 136 l (omega arith) k 32 (omega arith) h (omega arith)

-- ---- lengths
pub length_sha3_224 : (m : List ℕ) → length (S.sha3_224 m) ≡ 28
unfolding S.sha3_224
length_sha3_224 m = length-sponge 144 28 m (omega arith) (omega arith) (omega arith)

pub length_sha3_256 : (m : List ℕ) → length (S.sha3_256 m) ≡ 32
unfolding S.sha3_256
length_sha3_256 m = length-sponge 136 32 m (omega arith) (omega arith) (omega arith)
