-- The padding, and a message's blocks laid out in 200 bytes.
-- Assumes nothing.
use mathlib.Core.Path.{◌≡◌, refl, sym, ap, ◌∙◌}
use mathlib.Core.List.{List, [], ◌∷◌, ◌++◌, append_assoc}
use mathlib.Core.Logic.{⊎_elim}
use Prim.Native.Nat.{ℕ, zero, suc, ◌+◌, ◌-◌, ◌≤◌, ◌<◌}
use native.Mathlib.Omega.{arith}
use lib.Bits.{bit_xor}
use lib.ListN.{length, get_or, set, drop, replicate, length-append, length-replicate, length-drop, replicate-append-replicate}
use lib.Seq.{set_at, get_or_at, take_all}
use Rattle.laws.specs.Lists.{part, splice}
use Rattle.laws.proofs.Splice.{below?, length_part, splice-start}
use Rattle.sha3.specs.Sha3 as S

abbrev pub zs : ℕ → List ℕ
zs n = replicate n 0

pub length-padding : (q : ℕ) → length (S.padding q) ≡ q
unfolding S.padding
length-padding zero = refl
length-padding (suc zero) = refl
length-padding (suc (suc q)) = simp (length-append, length-replicate) (omega arith)

-- bytes from the start of 200, and zeros
laid : (x : List ℕ) (n : ℕ) → length x ≡ n → splice (zs 200) 0 x ≡ x ++ zs (200 - n)
laid x n e = splice-start 200 0 x ∙ rw e

-- a block inside a message
pub whole_is : (m : List ℕ) (at r : ℕ) {d : List ℕ} → at + r ≤ length m → d ≡ splice (zs 200) 0 (part m at r) → d ≡ part m at r ++ zs (200 - r)
whole_is m at r h p = p ∙ laid (part m at r) r (length_part m at r h)

-- the last bit of the padding is added to a byte
bit_added : (x y : List ℕ) (b i : ℕ) → length x ≡ i → set (x ++ (b ∷ y)) i (bit_xor (get_or (x ++ (b ∷ y)) i 0) 128) ≡ x ++ (bit_xor b 128 ∷ y)
bit_added x y b i e = rw (get_or_at x b y 0 i e) (set_at x b y (bit_xor b 128) i e)

-- the padding after the bytes x, of two bytes or more, and the bytes y after it
long_padding : (x y : List ℕ) (q : ℕ) → (x ++ (6 ∷ zs q)) ++ (0x80 ∷ y) ≡ x ++ (S.padding (suc (suc q)) ++ y)
unfolding S.padding
long_padding x y q = simp append_assoc

-- ---- the block in which a message ends: x is what is left of it, n bytes
module _ (x : List ℕ) (n r : ℕ) (e : length x ≡ n) (h : n < r) (l : r ≤ 200) where
  ended : set (splice (zs 200) 0 x) n 6 ≡ x ++ (6 ∷ zs (199 - n))
  ended =
      let f : 200 - n ≡ suc (199 - n) = omega arith in
      ap (λ (d : List ℕ). set d n 6) (laid x n e ∙ ap (λ (k : ℕ). x ++ zs k) f) ∙ set_at x 0 (zs (199 - n)) 6 n e

  -- the last byte of the padding is its first
  one_byte : r - 1 ≤ n → set (x ++ (6 ∷ zs (199 - n))) (r - 1) (bit_xor (get_or (x ++ (6 ∷ zs (199 - n))) (r - 1) 0) 128) ≡ x ++ (S.padding (r - n) ++ zs (200 - r))
  unfolding S.padding
  one_byte k =
      let f : r - n ≡ 1 = omega arith in
      let g : 199 - n ≡ 200 - r = omega arith in
      bit_added x (zs (199 - n)) 6 (r - 1) (omega arith) ∙ rw (f, g)

  more_bytes : n < r - 1 → set (x ++ (6 ∷ zs (199 - n))) (r - 1) (bit_xor (get_or (x ++ (6 ∷ zs (199 - n))) (r - 1) 0) 128) ≡ x ++ (S.padding (r - n) ++ zs (200 - r))
  more_bytes k =
      let q : ℕ = r - n - 2 in
      let f : r - n ≡ suc (suc q) = omega arith in
      let g : 199 - n ≡ q + suc (200 - r) = omega arith in
      let z : zs (199 - n) ≡ zs q ++ (0 ∷ zs (200 - r)) = ap zs g ∙ sym (replicate-append-replicate q (suc (200 - r)) 0) in
      let y : x ++ (6 ∷ zs (199 - n)) ≡ (x ++ (6 ∷ zs q)) ++ (0 ∷ zs (200 - r)) = rw z (sym (append_assoc x (6 ∷ zs q) (0 ∷ zs (200 - r)))) in
      let o : length (x ++ (6 ∷ zs q)) ≡ r - 1 = simp (length-append, length-replicate) (omega arith) in
      rw y (bit_added (x ++ (6 ∷ zs q)) (zs (200 - r)) 0 (r - 1) o)
      ∙ long_padding x (zs (200 - r)) q
      ∙ ap (λ (k : ℕ). x ++ (S.padding k ++ zs (200 - r))) (sym f)

  padded_is : set (set (splice (zs 200) 0 x) n 6) (r - 1) (bit_xor (get_or (set (splice (zs 200) 0 x) n 6) (r - 1) 0) 128) ≡ x ++ (S.padding (r - n) ++ zs (200 - r))
  padded_is = rw ended (⊎_elim more_bytes one_byte (below? n (r - 1)))

-- ---- a block that begins with the 64 bytes b, and ends with the padding's last byte
pub block_is : (b : List ℕ) (r : ℕ) → length b ≡ 64 → 65 ≤ r → r ≤ 200
    → set (b ++ zs 136) (r - 1) 128 ≡ (b ++ (zs (r - 65) ++ (0x80 ∷ []))) ++ zs (200 - r)
block_is b r e g h =
    let f : 136 ≡ (r - 65) + suc (200 - r) = omega arith in
    let z : zs 136 ≡ zs (r - 65) ++ (0 ∷ zs (200 - r)) = ap zs f ∙ sym (replicate-append-replicate (r - 65) (suc (200 - r)) 0) in
    let o : length (b ++ zs (r - 65)) ≡ r - 1 = simp (length-append, length-replicate) (omega arith) in
    let w : b ++ zs 136 ≡ (b ++ zs (r - 65)) ++ (0 ∷ zs (200 - r)) =
    ap (λ (x : List ℕ). b ++ x) z ∙ sym (append_assoc b (zs (r - 65)) (0 ∷ zs (200 - r))) in
    rw w (set_at (b ++ zs (r - 65)) 0 (zs (200 - r)) 128 (r - 1) o ∙ simp append_assoc)

-- the padding of a message of at most 63 bytes, of which the first is in a block of 64
pub short_padding : (m : List ℕ) (r : ℕ) → length m ≤ 63 → 65 ≤ r
    → (m ++ (6 ∷ zs (63 - length m))) ++ (zs (r - 65) ++ (0x80 ∷ [])) ≡ m ++ S.padding (r - length m)
unfolding S.padding
short_padding m r h g =
    let q : ℕ = (63 - length m) + (r - 65) in
    let f : r - length m ≡ suc (suc q) = omega arith in
    let z : zs q ≡ zs (63 - length m) ++ zs (r - 65) = sym (replicate-append-replicate (63 - length m) (r - 65) 0) in
    let y : m ++ S.padding (suc (suc q)) ≡ (m ++ (6 ∷ zs (63 - length m))) ++ (zs (r - 65) ++ (0x80 ∷ [])) = rw z (simp append_assoc) in
    sym (ap (λ (k : ℕ). m ++ S.padding k) f ∙ y)

pub last_is : (m : List ℕ) (at r : ℕ) {d : List ℕ} → at ≤ length m → length m - at < r → r ≤ 200
    → d ≡ splice (zs 200) 0 (part m at (length m - at))
    → set (set d (length m - at) 6) (r - 1) (bit_xor (get_or (set d (length m - at) 6) (r - 1) 0) 128) ≡ drop at m ++ (S.padding (r - (length m - at)) ++ zs (200 - r))
unfolding part
last_is m at r h k l p =
    let n = length-drop at m in
    rw (p, take_all (length m - at) (drop at m) (omega arith)) (padded_is (drop at m) (length m - at) r n k l)
