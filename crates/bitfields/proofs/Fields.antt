-- Laws of `bit`, `bits` and `bytes_at`: bounds, a field split in two, a field inside one byte, whole bytes, a field cut out of a wider one,
-- and a field of a part of a string.
-- Assumes nothing.
use mathlib.Core.Path.{◌≡◌, refl, sym, ◌∙◌}
use mathlib.Core.List.{List, [], ◌∷◌, ◌++◌, append_assoc, append-nil}
use Prim.Native.Nat.{ℕ, zero, suc, ◌+◌, ◌-◌, ◌*◌, ◌/◌, ◌%◌, ◌^◌, ◌≤◌, ◌<◌}
use native.Mathlib.Omega.{arith}
use native.Mathlib.Numerals.{add-one}
use native.Mathlib.Nat.{add-zero, add-suc, add_assoc, pow-suc, mod-one, lt_of_lt_of_le}
use lib.ListN.{length, get_or, take, drop, set, length-append, length-drop}
use lib.Seq.{set_at, drop-cons, length-take-le}
use lib.Pow.{pow_mono, high, low, shr-shr, mod-pow-add}
use Rattle.laws.specs.Lists.{part, splice}
use Rattle.laws.proofs.Splice.{get_d_part, splice-after, splice_nil}
use Rattle.rules.specs.Bits.{bit, bits, bytes_at}
use Rattle.rules.proofs.Bounds.{bits_lt}
use Rattle.rules.proofs.Parts.{length-bytes_at}

-- a field split in two
pub bits_split : (s : List ℕ) (at n m : ℕ) → bits s at (n + m) ≡ bits s at n * 2 ^ m + bits s (at + n) m
unfolding bits
bits_split s at n zero = rw (add-zero n) (omega arith)
bits_split s at n (suc m) =
    rw (add-suc n m, bits_split s at n m, pow-suc 2 m, add_assoc at n m) (omega arith)

halves : (y n : ℕ) → y / 2 ^ 1 % 2 ^ n * 2 + y % 2 ≡ y % 2 ^ suc n
halves y n = sym (rw add-one at (mod-pow-add y n 1))

-- a field inside one byte
pub bits_in_byte : (s : List ℕ) (k r n : ℕ) → r + n ≤ 8 → bits s (8 * k + r) n ≡ get_or s k 0 / 2 ^ (8 - (r + n)) % 2 ^ n
unfolding bits bit
bits_in_byte s k r zero h = sym (mod-one _)
bits_in_byte s k r (suc n) h =
    let t : ℕ = 8 - (r + suc n) in
    let e1 : 8 - (r + n) ≡ t + 1 = omega arith in
    let e2 : (8 * k + r + n) / 8 ≡ k = omega arith in
    let e3 : 7 - (8 * k + r + n) % 8 ≡ t = omega arith in
    rw (bits_in_byte s k r n (omega arith), e1, e2, e3, ← shr-shr (get_or s k 0) t 1) (halves (get_or s k 0 / 2 ^ t) n)

-- a whole byte
pub bits_byte : (s : List ℕ) (k : ℕ) → get_or s k 0 < 256 → bits s (8 * k) 8 ≡ get_or s k 0
bits_byte s k h =
    let e : bits s (8 * k + 0) 8 ≡ get_or s k 0 / 2 ^ 0 % 2 ^ 8 = bits_in_byte s k 0 8 (omega arith) in
    rw (← add-zero (8 * k)) (e ∙ omega arith)

-- one byte more
pub bits_byte_more : (s : List ℕ) (k m : ℕ) → get_or s (k + m) 0 < 256 → bits s (8 * k) (8 * (m + 1)) ≡ bits s (8 * k) (8 * m) * 256 + get_or s (k + m) 0
bits_byte_more s k m h =
    let e : 8 * (m + 1) ≡ 8 * m + 8 = omega arith in
    let f : 8 * k + 8 * m ≡ 8 * (k + m) = omega arith in
    rw (e, bits_split s (8 * k) (8 * m) 8, f, bits_byte s (k + m) h)

-- a field cut out of a wider one, r bits before it and t after it
pub bits_cut : (s : List ℕ) (at r n t : ℕ) → bits s at (r + n + t) / 2 ^ t % 2 ^ n ≡ bits s (at + r) n
bits_cut s at r n t =
    rw (bits_split s at (r + n) t, high (bits s at (r + n)) t (bits_lt s (at + (r + n)) t), bits_split s at r n)
    (low (bits s at r) n (bits_lt s (at + r) n))

-- a narrow field is small
pub bits_small : (s : List ℕ) (at n k : ℕ) → n ≤ k → bits s at n < 2 ^ k
bits_small s at n k h = lt_of_lt_of_le (bits_lt s at n) (pow_mono h)

-- the byte from bit r of byte k on: byte k itself, or the middle of two bytes
pub byte_whole : (s : List ℕ) (k r : ℕ) → r ≡ 0 → get_or s k 0 < 256 → get_or s k 0 ≡ bits s (8 * k + r) 8
byte_whole s k r e h = rw (e, add-zero (8 * k)) (sym (bits_byte s k h))

pub byte_pair : (s : List ℕ) (k r : ℕ) → r < 8 → get_or s k 0 < 256 → get_or s (k + 1) 0 < 256
    → (get_or s k 0 * 256 + get_or s (k + 1) 0) / 2 ^ (8 - r) % 256 ≡ bits s (8 * k + r) 8
byte_pair s k r h a b =
    let e : r + 8 + (8 - r) ≡ 8 * (1 + 1) = omega arith in
    let f : bits s (8 * k) (8 * 1) ≡ get_or s k 0 = bits_byte s k a in
    rw (← f, ← bits_byte_more s k 1 b, ← e) (bits_cut s (8 * k) r 8 (8 - r))

-- a field depends on the bits in it alone
pub bits-same : (s u : List ℕ) (a b n : ℕ) → ((i : ℕ) → i < n → bit s (a + i) ≡ bit u (b + i)) → bits s a n ≡ bits u b n
unfolding bits
bits-same s u a b zero f = refl
bits-same s u a b (suc n) f = rw (bits-same s u a b n (λ i h. f i (omega arith)), f n (omega arith))

-- a bit of a part of a string
pub bit-part : (s : List ℕ) (a n i : ℕ) → i < 8 * n → bit (part s a n) i ≡ bit s (8 * a + i)
unfolding bit
bit-part s a n i h =
    let e1 : (8 * a + i) / 8 ≡ a + i / 8 = omega arith in
    let e2 : (8 * a + i) % 8 ≡ i % 8 = omega arith in
    rw (e1, e2, get_d_part s a n (i / 8) (omega arith))

-- a field of a part of a string
pub bits-part : (s : List ℕ) (a n at m : ℕ) → at + m ≤ 8 * n → bits (part s a n) at m ≡ bits s (8 * a + at) m
bits-part s a n at m h = bits-same (part s a n) s at (8 * a + at) m (λ i k. bit-part s a n (at + i) (omega arith) ∙ rw add_assoc)

-- ---- bytes at any bit

-- one byte more, with the code's n + 1
pub bytes_at_more : (s : List ℕ) (at n : ℕ) → bytes_at s at (n + 1) ≡ bytes_at s at n ++ (bits s (at + 8 * n) 8 ∷ [])
unfolding bytes_at
bytes_at_more s at n = rw add-one

-- bytes more
pub bytes_at-add : (s : List ℕ) (at n m : ℕ) → bytes_at s at (n + m) ≡ bytes_at s at n ++ bytes_at s (at + 8 * n) m
unfolding bytes_at
bytes_at-add s at n zero = rw (add-zero n) (sym (append-nil (bytes_at s at n)))
bytes_at-add s at n (suc m) =
    let e : at + 8 * (n + m) ≡ at + 8 * n + 8 * m = omega arith in
    rw (add-suc n m, bytes_at-add s at n m, e, append_assoc)

-- ---- what a loop stores

-- one element more after what was spliced in
pub splice_push : (d : List ℕ) (a : ℕ) (l : List ℕ) (v : ℕ) → a + length l < length d → set (splice d a l) (a + length l) v ≡ splice d a (l ++ (v ∷ []))
unfolding splice
splice_push d a l v h =
    let e : length (take a d) ≡ a = length-take-le a d (omega arith) in
    let n : length (take a d ++ l) ≡ a + length l = simp (length-append, e) in
    let c : drop (length l) (drop a d) ≡ get_or (drop a d) (length l) 0 ∷ drop (suc (length l)) (drop a d) = drop-cons (drop a d) (length l) 0 (simp length-drop (omega arith)) in
    rw (c, ← append_assoc (take a d) l (get_or (drop a d) (length l) 0 ∷ drop (suc (length l)) (drop a d)))
    (set_at (take a d ++ l) (get_or (drop a d) (length l) 0) (drop (suc (length l)) (drop a d)) v (a + length l) n
    ∙ simp (append_assoc, length-append, add-one))

-- one byte more is stored
pub splice_byte : (d : List ℕ) (to : ℕ) (s : List ℕ) (at i v : ℕ) → to + i < length d → v ≡ bits s (at + 8 * i) 8
    → set (splice d to (bytes_at s at i)) (to + i) v ≡ splice d to (bytes_at s at (i + 1))
splice_byte d to s at i v h e =
    let n = length-bytes_at s at i in
    let p = splice_push d to (bytes_at s at i) v (omega arith) in
    rw (bytes_at_more, ← e) (rw n at p)

-- m bytes more are stored
pub splice-bytes : (d : List ℕ) (to : ℕ) (s : List ℕ) (at i m : ℕ) → to + (i + m) ≤ length d
    → splice (splice d to (bytes_at s at i)) (to + i) (bytes_at s (at + 8 * i) m) ≡ splice d to (bytes_at s at (i + m))
splice-bytes d to s at i m h =
    rw (bytes_at-add s at i m)
    (splice-after d to (to + i) (bytes_at s at i) (bytes_at s (at + 8 * i) m) (omega (arith, length-bytes_at s at i)) (omega (arith, length-bytes_at s (at + 8 * i) m)))

-- nothing is stored yet
pub splice_no_bytes : (d : List ℕ) (to : ℕ) (s : List ℕ) (at : ℕ) → d ≡ splice d to (bytes_at s at 0)
unfolding bytes_at
splice_no_bytes d to s at = sym (splice_nil d to)
