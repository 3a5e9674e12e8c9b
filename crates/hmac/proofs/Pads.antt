-- A key's block and its pads: their elements and lengths.
-- Assumes nothing.
use mathlib.Core.Path.{◌≡◌, refl}
use mathlib.Core.Bool.{Bool, true, false, cond}
use mathlib.Core.List.{List, [], ◌∷◌, map}
use Prim.Native.Nat.{ℕ, zero, suc, ◌≤◌, ◌<◌}
use native.Mathlib.Omega.{arith}
use borrow.Author.Tests.{ltb-false}
use lib.Bits.{bit_xor}
use lib.Dec.{ltb}
use lib.ListN.{length, get_or, length-map, length-append, length-replicate}
use Rattle.sha256.specs.Sha256.{sha256}
use Rattle.sha256.proofs.Continued.{length-sha256}
use Rattle.hmac.specs.Hmac as Spec

get_d_map : (f : ℕ → ℕ) (l : List ℕ) (i : ℕ) → i < length l → get_or (map f l) i 0 ≡ f (get_or l i 0)
get_d_map f [] i h = absurd (omega arith)
get_d_map f (x ∷ xs) zero h = refl
get_d_map f (x ∷ xs) (suc i) h = get_d_map f xs i (omega arith)

pub get_or-xored : (b : List ℕ) (x i : ℕ) → i < length b → get_or (Spec.xored b x) i 0 ≡ bit_xor (get_or b i 0) x
unfolding Spec.xored
get_or-xored b x i h = get_d_map (λ y. bit_xor y x) b i h

pub length-xored : (b : List ℕ) (x : ℕ) → length (Spec.xored b x) ≡ length b
unfolding Spec.xored
length-xored b x = length-map b (λ y. bit_xor y x)

length-zero_padded : (b : List ℕ) → length b ≤ 64 → length (Spec.zero_padded b) ≡ 64
unfolding Spec.zero_padded
length-zero_padded b h = simp (length-append, length-replicate) (omega arith)

pub length-key_block : (k : List ℕ) → length (Spec.key_block k) ≡ 64
unfolding Spec.key_block
length-key_block k = length-zero_padded _ (short (ltb 64 (length k)) refl)
  where
    short : (t : Bool) → ltb 64 (length k) ≡ t → length (cond t (sha256 k) k) ≤ 64
    short true e = omega (arith, length-sha256 k)
    short false e = ltb-false 64 (length k) e
