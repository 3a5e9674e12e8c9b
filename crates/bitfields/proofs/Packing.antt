-- Laws of `bit_list`, `octet` and `packed`: lengths, elements, a list of bits split in two, and packed bits that are the bytes of a string.
-- Assumes nothing.
use mathlib.Core.Path.{◌≡◌, refl, sym, ap, ◌∙◌}
use mathlib.Core.List.{List, [], ◌∷◌, ◌++◌, append_assoc, append-nil}
use mathlib.Core.Logic.{⊎_elim}
use Prim.Native.Nat.{ℕ, zero, suc, ◌+◌, ◌*◌, ◌≤◌, ◌<◌}
use native.Mathlib.Omega.{arith}
use native.Mathlib.Nat.{zero-add, add-zero, add-suc, add_assoc}
use lib.ListN.{length, get_or, drop, length-append, get_or-append}
use lib.Seq.{get_or_at, drop-drop, drop_at}
use Rattle.laws.specs.Lists.{part}
use Rattle.laws.proofs.Splice.{below?}
use Rattle.rules.specs.Bits.{bit, bits, bit_list, bytes_at, octet, packed}
use Rattle.rules.proofs.Parts.{length-packed}
use Rattle.bitfields.proofs.Fields.{bit-part}

pub length-bit_list : (s : List ℕ) (at n : ℕ) → length (bit_list s at n) ≡ n
unfolding bit_list
length-bit_list s at zero = refl
length-bit_list s at (suc n) = rw (length-append, length-bit_list s at n) (omega arith)

pub get_or-bit_list : (s : List ℕ) (at n i : ℕ) → i < n → get_or (bit_list s at n) i 0 ≡ bit s (at + i)
unfolding bit_list
get_or-bit_list s at zero i h = absurd (omega arith)
get_or-bit_list s at (suc n) i h =
    ⊎_elim
    (λ p. get_or-append (bit_list s at n) (bit s (at + n) ∷ []) 0 i (omega (arith, length-bit_list s at n)) ∙ get_or-bit_list s at n i p)
    (λ p.
    let e : i ≡ n = omega arith in
    rw e (get_or_at (bit_list s at n) (bit s (at + n)) [] 0 n (length-bit_list s at n)))
    (below? i n)

-- a list of bits split in two
pub bit_list_split : (s : List ℕ) (at n m : ℕ) → bit_list s at (n + m) ≡ bit_list s at n ++ bit_list s (at + n) m
unfolding bit_list
bit_list_split s at n zero = rw (add-zero n) (sym (append-nil (bit_list s at n)))
bit_list_split s at n (suc m) = rw (add-suc n m, bit_list_split s at n m, append_assoc, add_assoc)

-- bits of a part of a string
pub bit_list-part : (s : List ℕ) (a n at m : ℕ) → at + m ≤ 8 * n → bit_list (part s a n) at m ≡ bit_list s (8 * a + at) m
unfolding bit_list
bit_list-part s a n at zero h = refl
bit_list-part s a n at (suc m) h = rw (bit_list-part s a n at m (omega arith), bit-part s a n (at + m) (omega arith), add_assoc)

-- ---- packed bits

pub get_or-packed : (l : List ℕ) (n i : ℕ) → i < n → get_or (packed l n) i 0 ≡ octet (drop (8 * i) l)
unfolding packed
get_or-packed l zero i h = absurd (omega arith)
get_or-packed l (suc n) i h =
    ⊎_elim
    (λ p. get_or-append (packed l n) (octet (drop (8 * n) l) ∷ []) 0 i (omega (arith, length-packed l n)) ∙ get_or-packed l n i p)
    (λ p.
    let e : i ≡ n = omega arith in
    rw e (get_or_at (packed l n) (octet (drop (8 * n) l)) [] 0 n (length-packed l n)))
    (below? i n)

-- the first byte, and the others
pub packed_front : (l : List ℕ) (n : ℕ) → packed l (suc n) ≡ octet l ∷ packed (drop 8 l) n
unfolding packed
packed_front l zero = refl
packed_front l (suc n) =
    let e : 8 * suc n ≡ 8 + 8 * n = omega arith in
    rw (packed_front l n, drop-drop (8 * n) 8 l, e)

-- eight bits of a string, whatever comes after them
pub octet_byte : (s : List ℕ) (at : ℕ) (rest : List ℕ) → octet (bit_list s at 8 ++ rest) ≡ bits s at 8
unfolding octet bit_list bits
octet_byte s at rest = omega arith

-- the last bits of a list that ends inside a byte
pub octet-five : (s : List ℕ) (at : ℕ) → octet (bit_list s at 5) ≡ bits s at 5 * 8
unfolding octet bit_list bits
octet-five s at = omega arith

pub octet_seven : (s : List ℕ) (at : ℕ) → octet (bit_list s at 7) ≡ bits s at 7 * 2
unfolding octet bit_list bits
octet_seven s at = omega arith

no_bits : (s : List ℕ) (at : ℕ) (rest : List ℕ) {n m : ℕ} → n ≡ m → packed (bit_list s at 0 ++ rest) n ≡ packed rest m
unfolding bit_list
no_bits s at rest e = ap (packed rest) e

-- a byte of a string in front
pub packed_byte : (s : List ℕ) (at : ℕ) (rest : List ℕ) (m : ℕ) → packed (bit_list s at 8 ++ rest) (suc m) ≡ bits s at 8 ∷ packed rest m
packed_byte s at rest m =
    packed_front (bit_list s at 8 ++ rest) m
    ∙ rw (octet_byte s at rest, drop_at (bit_list s at 8) rest 8 (length-bit_list s at 8))

-- whole bytes of a string in front
pub packed-bytes : (s : List ℕ) (at k : ℕ) (rest : List ℕ) (m : ℕ) → packed (bit_list s at (8 * k) ++ rest) (k + m) ≡ bytes_at s at k ++ packed rest m
unfolding bytes_at
packed-bytes s at zero rest m = no_bits s at rest (zero-add m)
packed-bytes s at (suc k) rest m =
    let e : 8 * suc k ≡ 8 * k + 8 = omega arith in
    let f : suc k + m ≡ k + suc m = omega arith in
    rw (e, f, bit_list_split s at (8 * k) 8, append_assoc (bit_list s at (8 * k)) (bit_list s (at + 8 * k) 8) rest, append_assoc)
    (packed-bytes s at k (bit_list s (at + 8 * k) 8 ++ rest) (suc m) ∙ rw (packed_byte s (at + 8 * k) rest m))
