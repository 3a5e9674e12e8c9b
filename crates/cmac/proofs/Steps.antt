-- Blocks of a message, the last one, and the parts of a kept key.
-- Assumes nothing.
use mathlib.Core.Path.{◌≡◌, refl, ap, ◌∙◌}
use mathlib.Core.List.{List, [], ◌∷◌, ◌++◌, append_assoc, append-nil}
use mathlib.Core.Bool.{Bool, true, false, cond}
use mathlib.Core.Logic.{⊎_elim}
use Prim.Native.Nat.{ℕ, suc, ◌+◌, ◌-◌, ◌*◌, ◌≤◌, ◌<◌}
use native.Mathlib.Nat.{le_refl}
use native.Mathlib.Omega.{arith}
use borrow.Author.Tests.{eq-eqb, ne_eqb, lt-ltb, le-ltb}
use lib.ListN.{length, take, drop, set, replicate, length-append, length-drop}
use borrow.Rule.Slice.PartMut.{put_mid}
use lib.Seq.{set_at, take_all}
use Rattle.laws.specs.Lists.{part, splice}
use Rattle.laws.proofs.Splice.{below?, lent, length_splice, length_part, splice_one, splice-after, splice-start}
use Rattle.cmac.specs.Cmac as S
use Rattle.cmac.proofs.Counts.{blocks_hold}

-- all of a list
pub part-all : (l : List ℕ) (n : ℕ) → length l ≡ n → part l 0 n ≡ l
unfolding part
part-all l n e = take_all n l (omega arith)

-- ---- the block after i blocks
pub rest_is : (m : List ℕ) (i : ℕ) → take (length m - 16 * i) (drop (16 * i) m) ≡ drop (16 * i) m
rest_is m i = take_all (length m - 16 * i) (drop (16 * i) m) (simp length-drop (le_refl _))

module _ (k1 k2 m : List ℕ) (i : ℕ) where
  pub block_full : 16 < length m - 16 * i → S.block k1 k2 m (i + 1) ≡ part m (16 * i) 16
  unfolding S.block
  block_full h =
      let n = blocks_hold (length m) in
      let e : i + 1 - 1 ≡ i = omega arith in
      rw (lt-ltb (i + 1) (S.blocks (length m)) (omega arith), e)

  pub block_last : i < S.blocks (length m) → length m - 16 * i ≤ 16 → S.block k1 k2 m (i + 1) ≡ S.last_block k1 k2 (take (length m - 16 * i) (drop (16 * i) m))
  unfolding S.block S.rest
  block_last g h =
      let n = blocks_hold (length m) in
      let e : S.blocks (length m) - 1 ≡ i = ⊎_elim (λ z. omega arith) (λ z. omega (arith, n.needed z)) (below? (length m) 1) in
      rw (le-ltb (i + 1) (S.blocks (length m)) (omega arith), e, rest_is m i)

-- ---- the last block, from bytes b that begin with what is left of the message
module _ (r b : List ℕ) (e : b ≡ splice (replicate 16 0) 0 r) where
  pub padded_complete : length r ≤ 16 → 16 ≤ length r → b ≡ S.padded r
  unfolding S.padded
  padded_complete g h =
      let z : 16 - length r ≡ 0 = omega arith in
      rw (eq-eqb (length r) 16 (omega arith), e, splice-start 16 0 r, z) (append-nil r)

  pub padded_partial : length r < 16 → set b (length r) 0x80 ≡ S.padded r
  unfolding S.padded
  padded_partial h =
      let z : 16 - length r ≡ suc (15 - length r) = omega arith in
      rw (ne_eqb (length r) 16 (omega arith), e, splice-start 16 0 r, z) (set_at r 0 (replicate (15 - length r) 0) 0x80 (length r) refl)

-- its subkey
pub subkey-length : (t : Bool) (l : List ℕ) → length l ≡ 273 → length (cond t (part l 240 16) (part l 256 16)) ≡ 16
subkey-length true l h = length_part l 240 16 (omega arith)
subkey-length false l h = length_part l 256 16 (omega arith)

-- ---- what comes after the round keys, stored one after another
pub tail_parts : (d a b x y : List ℕ) (r : ℕ) → length d ≡ 273 → length a ≡ 16 → length b ≡ 16 → x ≡ a → y ≡ b
    → set (put_mid 256 16 (put_mid 240 16 d x) y) 272 r ≡ splice d 240 (a ++ (b ++ (r ∷ [])))
tail_parts d a b x y r p s t u v =
    let ab : length (a ++ b) ≡ 32 = simp length-append (omega arith) in
    let e : put_mid 240 16 d x ≡ splice d 240 a = rw u (lent d 240 16 a s) in
    let f : put_mid 256 16 (put_mid 240 16 d x) y ≡ splice d 240 (a ++ b) =
    rw (e, v) (lent (splice d 240 a) 256 16 b t ∙ splice-after d 240 256 a b (omega arith) (omega arith)) in
    let h = length_splice d 240 (a ++ b) (omega arith) in
    rw f
    (splice_one (splice d 240 (a ++ b)) 272 r (omega arith) ∙ splice-after d 240 272 (a ++ b) (r ∷ []) (omega arith) (omega arith) ∙ ap (splice d 240) (append_assoc a b (r ∷ [])))
