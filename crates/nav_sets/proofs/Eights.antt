-- Packed bits, eight bytes at a time: 64 bits of two strings are the bytes of one number.
-- Assumes nothing.
use mathlib.Core.Path.{◌≡◌, refl, sym, ap, ◌∙◌}
use mathlib.Core.List.{List, [], ◌∷◌, ◌++◌, append_assoc, append-nil}
use Prim.Native.Nat.{ℕ, zero, suc, ◌+◌, ◌-◌, ◌*◌, ◌/◌, ◌%◌, ◌^◌, ◌≤◌, ◌<◌}
use native.Mathlib.Omega.{arith}
use native.Mathlib.Nat.{pow-suc}
use lib.ListN.{length, get_or, take, drop, length-append, length-drop, take-append-drop, drop_of_length-le, get_or-append}
use lib.Seq.{drop-append-le, length-take-le}
use Rattle.laws.specs.Bytes.{be4, be8}
use Rattle.rules.specs.Bits.{bit, bits, bit_list, bytes_at, octet, packed}
use Rattle.rules.proofs.Bounds.{bits_lt}
use Rattle.bitfields.proofs.Fields.{bits_split}
use Rattle.bitfields.proofs.Packing.{packed_front, length-bit_list, bit_list_split, packed-bytes, octet-five, octet_seven}
use Rattle.nav_sets.proofs.Bytes.{be4_is}
use Rattle.nav_sets.specs.Pieces.{pair_of, five_of}

-- ---- lists of bits

-- each element is a bit
abbrev pub Bits : List ℕ → Type 0
Bits l = (i : ℕ) → get_or l i 0 < 2

pub bits-append : (l m : List ℕ) → Bits l → Bits m → Bits (l ++ m)
bits-append [] m f g i = g i
bits-append (b ∷ l) m f g zero = f zero
bits-append (b ∷ l) m f g (suc i) = bits-append l m (λ j. f (suc j)) g i

pub bits-drop : (k : ℕ) (l : List ℕ) → Bits l → Bits (drop k l)
bits-drop zero l f i = f i
bits-drop (suc k) [] f i = f i
bits-drop (suc k) (b ∷ l) f i = bits-drop k l (λ j. f (suc j)) i

bits-take : (k : ℕ) (l : List ℕ) → Bits l → Bits (take k l)
bits-take zero l f i = omega arith
bits-take (suc k) [] f i = f i
bits-take (suc k) (b ∷ l) f zero = f zero
bits-take (suc k) (b ∷ l) f (suc i) = bits-take k l (λ j. f (suc j)) i

one_bit : (b : ℕ) → b < 2 → Bits (b ∷ [])
one_bit b h zero = h
one_bit b h (suc i) = omega arith

pub bit_list-bits : (s : List ℕ) (at n : ℕ) → Bits (bit_list s at n)
unfolding bit_list bit
bit_list-bits s at zero i = omega arith
bit_list-bits s at (suc n) i = bits-append (bit_list s at n) _ (bit_list-bits s at n) (one_bit _ (omega arith)) i

-- ---- the number of a list of bits

-- .. with `a` before it
valued : ℕ → List ℕ → ℕ
valued a [] = a
valued a (b ∷ l) = valued (a * 2 + b) l

valued_append : (a : ℕ) (l m : List ℕ) → valued a (l ++ m) ≡ valued (valued a l) m
unfolding valued
valued_append a [] m = refl
valued_append a (b ∷ l) m = valued_append (a * 2 + b) l m

valued_bits : (a : ℕ) (s : List ℕ) (at n : ℕ) → valued a (bit_list s at n) ≡ a * 2 ^ n + bits s at n
unfolding bit_list bits valued
valued_bits a s at zero = omega arith
valued_bits a s at (suc n) = rw (valued_append a (bit_list s at n) (bit s (at + n) ∷ []), valued_bits a s at n, pow-suc 2 n) (omega arith)

value_is : (s : List ℕ) (at n : ℕ) → valued 0 (bit_list s at n) ≡ bits s at n
value_is s at n = valued_bits 0 s at n ∙ omega arith

-- its first eight bits are a byte
valued_octet : (a : ℕ) (l : List ℕ) → 8 ≤ length l → valued a l ≡ valued (a * 256 + octet l) (drop 8 l)
unfolding octet valued
valued_octet a (b ∷ c ∷ d ∷ e ∷ f ∷ g ∷ h ∷ i ∷ l) k = ap (λ (x : ℕ). valued x l) (omega arith)
valued_octet a [] k = absurd (omega arith)
valued_octet a (b ∷ []) k = absurd (omega arith)
valued_octet a (b ∷ c ∷ []) k = absurd (omega arith)
valued_octet a (b ∷ c ∷ d ∷ []) k = absurd (omega arith)
valued_octet a (b ∷ c ∷ d ∷ e ∷ []) k = absurd (omega arith)
valued_octet a (b ∷ c ∷ d ∷ e ∷ f ∷ []) k = absurd (omega arith)
valued_octet a (b ∷ c ∷ d ∷ e ∷ f ∷ g ∷ []) k = absurd (omega arith)
valued_octet a (b ∷ c ∷ d ∷ e ∷ f ∷ g ∷ h ∷ []) k = absurd (omega arith)

octet_small : (l : List ℕ) → Bits l → octet l < 256
unfolding octet
octet_small l f = omega (arith, f 0, f 1, f 2, f 3, f 4, f 5, f 6, f 7)

-- ---- four bytes

-- the byte in front, whatever comes after
octet_first : (l rest : List ℕ) (m : ℕ) → 8 ≤ length l → packed (l ++ rest) (suc m) ≡ octet l ∷ packed (drop 8 l ++ rest) m
unfolding octet
octet_first l rest m h =
    packed_front (l ++ rest) m
    ∙ rw (
      get_or-append l rest 0 0 (omega arith),
      get_or-append l rest 0 1 (omega arith),
      get_or-append l rest 0 2 (omega arith),
      get_or-append l rest 0 3 (omega arith),
      get_or-append l rest 0 4 (omega arith),
      get_or-append l rest 0 5 (omega arith),
      get_or-append l rest 0 6 (omega arith),
      get_or-append l rest 0 7 (omega arith),
      drop-append-le 8 l rest h,
    )

-- a list of 32 bits after the number a
four_octets : (a : ℕ) (l : List ℕ) → length l ≡ 32
    → valued a l ≡ (((a * 256 + octet l) * 256 + octet (drop 8 l)) * 256 + octet (drop 8 (drop 8 l))) * 256 + octet (drop 8 (drop 8 (drop 8 l)))
unfolding valued
four_octets a l n =
    let b : List ℕ = drop 8 l in
    let c : List ℕ = drop 8 b in
    let d : List ℕ = drop 8 c in
    let nb : length b ≡ 24 = length-drop 8 l ∙ rw n in
    let nc : length c ≡ 16 = length-drop 8 b ∙ rw nb in
    let nd : length d ≡ 8 = length-drop 8 c ∙ rw nc in
    valued_octet a l (omega arith) ∙ valued_octet _ b (omega arith) ∙ valued_octet _ c (omega arith) ∙ valued_octet _ d (omega arith)
    ∙ rw (drop_of_length-le d {i = 8} (omega arith))

packed_four : (l rest : List ℕ) (m : ℕ) → length l ≡ 32 → Bits l → packed (l ++ rest) (m + 4) ≡ be4 (valued 0 l) ++ packed rest m
packed_four l rest m n f =
    let b : List ℕ = drop 8 l in
    let c : List ℕ = drop 8 b in
    let d : List ℕ = drop 8 c in
    let nb : length b ≡ 24 = length-drop 8 l ∙ rw n in
    let nc : length c ≡ 16 = length-drop 8 b ∙ rw nb in
    let nd : length d ≡ 8 = length-drop 8 c ∙ rw nc in
    let g : Bits b = bits-drop 8 l f in
    let h : Bits c = bits-drop 8 b g in
    let v : valued 0 l ≡ ((octet l * 256 + octet b) * 256 + octet c) * 256 + octet d = four_octets 0 l n ∙ omega arith in
    let e : m + 4 ≡ suc (suc (suc (suc m))) = omega arith in
    rw (
      e,
      octet_first l rest (suc (suc (suc m))) (omega arith),
      octet_first b rest (suc (suc m)) (omega arith),
      octet_first c rest (suc m) (omega arith),
      octet_first d rest m (omega arith),
      drop_of_length-le d {i = 8} (omega arith),
      v,
      be4_is (octet l) (octet b) (octet c) (octet d) (octet_small l f) (octet_small b g) (octet_small c h) (octet_small d (bits-drop 8 c h)),
    )

-- ---- eight bytes

be8_is : (x y : ℕ) → y < 256 ^ 4 → be8 (x * 256 ^ 4 + y) ≡ be4 x ++ be4 y
unfolding be8
be8_is x y h =
    let p : (x * 256 ^ 4 + y) / 256 ^ 4 ≡ x = omega arith in
    let q : (x * 256 ^ 4 + y) % 256 ^ 4 ≡ y = omega arith in
    rw (p, q)

four_small : (l : List ℕ) → length l ≡ 32 → Bits l → valued 0 l < 256 ^ 4
four_small l n f =
    let g : Bits (drop 8 l) = bits-drop 8 l f in
    let h : Bits (drop 8 (drop 8 l)) = bits-drop 8 (drop 8 l) g in
    let k : octet (drop 8 (drop 8 (drop 8 l))) < 256 = octet_small (drop 8 (drop 8 (drop 8 l))) (bits-drop 8 (drop 8 (drop 8 l)) h) in
    omega (arith, four_octets 0 l n, octet_small l f, octet_small (drop 8 l) g, octet_small (drop 8 (drop 8 l)) h, k)

packed_list : (l rest : List ℕ) (m : ℕ) → length l ≡ 64 → Bits l → packed (l ++ rest) (m + 8) ≡ be8 (valued 0 l) ++ packed rest m
packed_list l rest m n f =
    let t : List ℕ = take 32 l in
    let d : List ℕ = drop 32 l in
    let nt : length t ≡ 32 = length-take-le 32 l (omega arith) in
    let nd : length d ≡ 32 = length-drop 32 l ∙ rw n in
    let g : Bits t = bits-take 32 l f in
    let h : Bits d = bits-drop 32 l f in
    let e : l ≡ t ++ d = sym (take-append-drop 32 l) in
    let v : valued 0 l ≡ valued 0 t * 256 ^ 4 + valued 0 d =
    ap (valued 0) e ∙ valued_append 0 t d ∙ omega (arith, four_octets (valued 0 t) d nd, four_octets 0 d nd) in
    ap (λ (x : List ℕ). packed (x ++ rest) (m + 8)) e
    ∙ ap (λ (x : List ℕ). packed x (m + 8)) (append_assoc t d rest)
    ∙ ap (packed (t ++ (d ++ rest))) (omega arith)
    ∙ packed_four t (d ++ rest) (m + 4) nt g
    ∙ rw (packed_four d rest m nd h, v, be8_is (valued 0 t) (valued 0 d) (four_small d nd h), append_assoc)

-- 64 bits of one string in front
pub packed_whole : (s : List ℕ) (at : ℕ) (rest : List ℕ) (m : ℕ) → packed (bit_list s at 64 ++ rest) (m + 8) ≡ be8 (bits s at 64) ++ packed rest m
packed_whole s at rest m =
    packed_list (bit_list s at 64) rest m (length-bit_list s at 64) (bit_list-bits s at 64)
    ∙ rw (value_is s at 64)

-- 64 bits that two strings share in front
pub packed_pair : (s : List ℕ) (at n : ℕ) (u : List ℕ) (to : ℕ) (rest : List ℕ) (m : ℕ) → n ≤ 64
    → packed (bit_list s at n ++ (bit_list u to (64 - n) ++ rest)) (m + 8) ≡ be8 (pair_of s at n u to) ++ packed rest m
unfolding pair_of
packed_pair s at n u to rest m h =
    let l : List ℕ = bit_list s at n ++ bit_list u to (64 - n) in
    let k : length l ≡ 64 = simp (length-append, length-bit_list) (omega arith) in
    let f : Bits l = bits-append (bit_list s at n) (bit_list u to (64 - n)) (bit_list-bits s at n) (bit_list-bits u to (64 - n)) in
    let v : valued 0 l ≡ bits s at n * 2 ^ (64 - n) + bits u to (64 - n) =
    valued_append 0 (bit_list s at n) (bit_list u to (64 - n)) ∙ rw (value_is s at n, valued_bits (bits s at n) u to (64 - n)) in
    ap (λ (x : List ℕ). packed x (m + 8)) (sym (append_assoc (bit_list s at n) (bit_list u to (64 - n)) rest))
    ∙ packed_list l rest m k f
    ∙ rw v

-- eight bytes of a string
pub bytes_eight : (s : List ℕ) (at : ℕ) → bytes_at s at 8 ≡ be8 (bits s at 64)
unfolding packed
bytes_eight s at =
    sym (append-nil (bytes_at s at 8)) ∙ sym (packed-bytes s at 8 [] 0) ∙ packed_whole s at [] 0 ∙ append-nil (be8 (bits s at 64))

-- ---- the last five bytes

-- 32 bits and a byte
five_is : (x b c : ℕ) → x ≡ b * 256 + c → c < 256 → b < 2 ^ 32 → be4 b ++ (c ∷ []) ≡ five_of x
unfolding five_of be4
five_is x b c e h k =
    let p : x / 256 ^ 4 % 256 ≡ b / 256 ^ 3 % 256 = omega arith in
    let q : x % 256 ^ 4 / 256 ^ 3 % 256 ≡ b / 256 ^ 2 % 256 = omega arith in
    let r : x % 256 ^ 4 / 256 ^ 2 % 256 ≡ b / 256 % 256 = omega arith in
    let t : x % 256 ^ 4 / 256 % 256 ≡ b % 256 = omega arith in
    let y : x % 256 ^ 4 % 256 ≡ c = omega arith in
    rw (p, q, r, t, y)

-- bits that end inside the fifth byte
packed-five : (s : List ℕ) (at n c : ℕ) → octet (bit_list s (at + 32) n) ≡ c → packed (bit_list s at (32 + n)) 5 ≡ be4 (bits s at 32) ++ (c ∷ [])
unfolding packed
packed-five s at n c e =
    ap (λ (l : List ℕ). packed l 5) (bit_list_split s at 32 n)
    ∙ packed_four (bit_list s at 32) (bit_list s (at + 32) n) 1 (length-bit_list s at 32) (bit_list-bits s at 32)
    ∙ rw (value_is s at 32, e)

pub last_37 : (s : List ℕ) (at : ℕ) → packed (bit_list s at 37) 5 ≡ five_of (bits s at 37 * 8)
last_37 s at =
    let c : bits s (at + 32) 5 < 2 ^ 5 = bits_lt s (at + 32) 5 in
    packed-five s at 5 (bits s (at + 32) 5 * 8) (octet-five s (at + 32))
    ∙ five_is (bits s at 37 * 8) (bits s at 32) (bits s (at + 32) 5 * 8) (omega (arith, bits_split s at 32 5)) (omega arith) (bits_lt s at 32)

pub last_39 : (s : List ℕ) (at : ℕ) → packed (bit_list s at 39) 5 ≡ five_of (bits s at 39 * 2)
last_39 s at =
    let c : bits s (at + 32) 7 < 2 ^ 7 = bits_lt s (at + 32) 7 in
    packed-five s at 7 (bits s (at + 32) 7 * 2) (octet_seven s (at + 32))
    ∙ five_is (bits s at 39 * 2) (bits s at 32) (bits s (at + 32) 7 * 2) (omega (arith, bits_split s at 32 7)) (omega arith) (bits_lt s at 32)
