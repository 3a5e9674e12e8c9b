-- The NMA status and a set as one string: eight bytes whose last two bits are the status, then the set.
-- Assumes nothing.
use mathlib.Core.Path.{◌≡◌, refl, sym, ◌∙◌}
use mathlib.Core.List.{List, [], ◌∷◌, ◌++◌}
use Prim.Native.Nat.{ℕ, zero, suc, ◌+◌, ◌*◌, ◌/◌, ◌%◌, ◌^◌, ◌≤◌, ◌<◌}
use native.Mathlib.Omega.{arith}
use native.Mathlib.Nat.{add_assoc}
use lib.ListN.{length}
use lib.Pow.{low}
use lib.Seq.{get_or-append-add}
use Rattle.laws.specs.Lists.{splice}
use Rattle.laws.proofs.Splice.{splice-after}
use Rattle.rules.specs.Bits.{bit, bits, bit_list, bytes_at}
use Rattle.rules.specs.Tags.{status_and_set}
use Rattle.rules.proofs.Bounds.{bits_lt}
use Rattle.rules.proofs.Parts.{length-bytes_at}
use Rattle.bitfields.proofs.Fields.{bits-same, bits_split, bits_byte_more}
use Rattle.bitfields.proofs.Packing.{bit_list_split, packed-bytes}
use Rattle.nav_sets.specs.Pieces.{five_of}
use Rattle.nav_sets.proofs.Eights.{last_39}
use Rattle.nav_sets.proofs.Gathered.{length-five}

front : ℕ → List ℕ
front status = 0 ∷ 0 ∷ 0 ∷ 0 ∷ 0 ∷ 0 ∷ 0 ∷ status ∷ []

pub stated : ℕ → List ℕ → List ℕ
stated status s = front status ++ s

-- ---- behind the status is the set

bit_behind : (status : ℕ) (s : List ℕ) (i : ℕ) → bit (stated status s) (64 + i) ≡ bit s i
unfolding bit stated front
bit_behind status s i =
    let e : (64 + i) / 8 ≡ 8 + i / 8 = omega arith in
    let f : (64 + i) % 8 ≡ i % 8 = omega arith in
    rw (e, f, get_or-append-add (front status) s (i / 8) 0)

pub bits_behind : (status : ℕ) (s : List ℕ) (at n : ℕ) → bits (stated status s) (64 + at) n ≡ bits s at n
bits_behind status s at n = bits-same (stated status s) s (64 + at) at n (λ i h. rw (add_assoc 64 at i) (bit_behind status s (at + i)))

bit_list_behind : (status : ℕ) (s : List ℕ) (at n : ℕ) → bit_list (stated status s) (64 + at) n ≡ bit_list s at n
unfolding bit_list
bit_list_behind status s at zero = refl
bit_list_behind status s at (suc n) = rw (bit_list_behind status s at n, add_assoc 64 at n, bit_behind status s (at + n))

-- ---- the status

-- eight bytes, the last of which is the status
pub status_number : (status : ℕ) (s : List ℕ) → status < 256 → status ≡ bits (stated status s) 0 64
unfolding stated front bits
status_number status s h =
    let z : List ℕ = stated status s in
    let a : bits z 0 8 ≡ 0 = bits_byte_more z 0 0 (omega arith) in
    let b : bits z 0 16 ≡ 0 = bits_byte_more z 0 1 (omega arith) ∙ rw a in
    let c : bits z 0 24 ≡ 0 = bits_byte_more z 0 2 (omega arith) ∙ rw b in
    let d : bits z 0 32 ≡ 0 = bits_byte_more z 0 3 (omega arith) ∙ rw c in
    let e : bits z 0 40 ≡ 0 = bits_byte_more z 0 4 (omega arith) ∙ rw d in
    let f : bits z 0 48 ≡ 0 = bits_byte_more z 0 5 (omega arith) ∙ rw e in
    let g : bits z 0 56 ≡ 0 = bits_byte_more z 0 6 (omega arith) ∙ rw f in
    sym (bits_byte_more z 0 7 h ∙ rw g (omega arith))

status_bits : (status : ℕ) (s : List ℕ) → bit_list (status * 64 ∷ []) 0 2 ≡ bit_list (stated status s) 62 2
unfolding bit_list bit stated front
status_bits status s =
    let p : status * 64 / 2 ^ 7 % 2 ≡ status / 2 ^ 1 % 2 = omega arith in
    let q : status * 64 / 2 ^ 6 % 2 ≡ status / 2 ^ 0 % 2 = omega arith in
    rw (p, q)

-- ---- both

-- 64 bytes from bit 62 on, then 39 bits and a zero bit
status_and-set_is : (status : ℕ) (s : List ℕ) → status_and_set status s ≡ bytes_at (stated status s) 62 64 ++ five_of (bits (stated status s) 574 39 * 2)
unfolding status_and_set
status_and-set_is status s =
    let z : List ℕ = stated status s in
    rw (status_bits status s, ← bit_list_behind status s 0 549, ← bit_list_split z 62 2 549, bit_list_split z 62 512 39)
    (packed-bytes z 62 64 (bit_list z 574 39) 5 ∙ rw (last_39 z 574))

pub status_spliced : (d : List ℕ) (to status : ℕ) (s : List ℕ) → to + 69 ≤ length d
    → splice (splice d to (bytes_at (stated status s) 62 64)) (to + 64) (five_of (bits (stated status s) 574 39 * 2)) ≡ splice d to (status_and_set status s)
status_spliced d to status s h =
    let z : List ℕ = stated status s in
    let n = length-bytes_at z 62 64 in
    let m = length-five (bits z 574 39 * 2) in
    rw (status_and-set_is status s) (splice-after d to (to + 64) (bytes_at z 62 64) (five_of (bits z 574 39 * 2)) (omega arith) (omega arith))

-- the last two bits of eight bytes, then 37
pub last_bits : (status : ℕ) (s : List ℕ) (x : ℕ) → x ≡ bits (stated status s) 512 64 → x % 4 * 137438953472 + bits s 512 37 ≡ bits (stated status s) 574 39
last_bits status s x e =
    let z : List ℕ = stated status s in
    let p : x % 4 ≡ bits z 574 2 = rw (e, bits_split z 512 62 2) (low (bits z 512 62) 2 (bits_lt z 574 2)) in
    rw (p, ← bits_behind status s 512 37) (sym (bits_split z 574 2 37))
