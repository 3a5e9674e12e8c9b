-- KeyExpansion, word by word.
-- Assumes nothing.
use mathlib.Core.Path.{◌≡◌, refl, sym, ap, ap₂, ◌∙◌}
use mathlib.Core.Bool.{Bool, true, false, cond, ◌&&◌}
use mathlib.Core.Logic.{◌⊎◌, inl, inr, ⊎_elim}
use mathlib.Core.List.{List, [], ◌∷◌, ◌++◌, append_assoc}
use Prim.Native.Nat.{ℕ, zero, suc, ◌+◌, ◌-◌, ◌*◌, ◌/◌, ◌%◌, ◌≤◌, ◌<◌, ◌^◌, min}
use native.Mathlib.Nat.{div-eq-sub-div}
use native.Mathlib.Numerals.{add-one}
use native.Mathlib.Omega.{arith}
use borrow.Author.Tests.{lt-ltb, le-ltb, eq-eqb, ne_eqb}
use lib.Bits.{bit_xor}
use lib.Dec.{eqb, ltb}
use lib.ListN.{length, length-map, take, drop, replicate, length-append, length-replicate, length-take, replicate-append-replicate}
use lib.Seq.{length-take-le, take_all, take_at, drop_at}
use Rattle.laws.specs.Lists.{part, splice}
use Rattle.laws.specs.Bytes.{be4}
use Rattle.laws.proofs.Splice.{length_part, part_first, drop-replicate, below?}
use Rattle.aes.specs.Aes as S
use Rattle.aes.specs.Steps as C
use Rattle.aes.proofs.States.{four_equal, xor_be4}
use Rattle.aes.proofs.Lengths.{length-cipher, length-xored, nk_range, rounds_range}

-- ---- Rcon

pub one : 1 ≡ S.x_power 0
unfolding S.x_power
one = refl

pub power_more : (r v i : ℕ) → r ≡ S.x_power i → v ≡ S.xtime r → v ≡ S.x_power (i + 1)
unfolding S.x_power
power_more r v i p q = rw (add-one i) (q ∙ ap S.xtime p)

-- ---- SubWord

pub sub_four : (x : ℕ) → S.sub_byte (x / 16777216 % 256) ∷ S.sub_byte (x / 65536 % 256) ∷ S.sub_byte (x / 256 % 256) ∷ S.sub_byte (x % 256) ∷ [] ≡ S.sub_bytes (be4 x)
unfolding S.sub_bytes be4
sub_four x = refl

and_false : (b : Bool) → (b && false) ≡ false
and_false true = refl
and_false false = refl

-- ---- what is added to word i - Nk, case by case

-- x^j in a word's first byte
rcon_is : (r : ℕ) → r < 256 → be4 (r * 2 ^ 24 % 2 ^ 32) ≡ r ∷ 0 ∷ 0 ∷ 0 ∷ []
unfolding be4
rcon_is r h = four_equal (omega arith) (omega arith) (omega arith) (omega arith)

pub first_case : (nk i v r : ℕ) (a : List ℕ) → i % nk ≡ 0 → be4 v ≡ S.sub_bytes (S.rot_word a) → r < 256 → r ≡ S.x_power (i / nk - 1)
    → be4 (bit_xor v (r * 2 ^ 24 % 2 ^ 32)) ≡ S.temp nk i a
unfolding S.temp S.rcon
first_case nk i v r a h p b q =
    xor_be4 v (r * 2 ^ 24 % 2 ^ 32) ∙ rw (p, rcon_is r b, eq-eqb (i % nk) 0 h) (ap (λ (y : ℕ). S.xored (S.sub_bytes (S.rot_word a)) (y ∷ 0 ∷ 0 ∷ 0 ∷ [])) q)

pub second_case : (nk i : ℕ) (a b : List ℕ) → 6 < nk → i % nk ≡ 4 → b ≡ S.sub_bytes a → b ≡ S.temp nk i a
unfolding S.temp
second_case nk i a b g h p =
    let n : (i % nk ≡ 0 → ⊥) = λ z. omega arith in
    rw (ne_eqb (i % nk) 0 n, lt-ltb 6 nk g, eq-eqb (i % nk) 4 h) p

pub other_case : (nk i : ℕ) (a : List ℕ) → (i % nk ≡ 0 → ⊥) → (i % nk ≡ 4 → ⊥) → a ≡ S.temp nk i a
unfolding S.temp
other_case nk i a g h = rw (ne_eqb (i % nk) 0 g, ne_eqb (i % nk) 4 h) (ap (λ (t : Bool). cond t (S.sub_bytes a) a) (sym (and_false (ltb 6 nk))))

pub short_case : (nk i : ℕ) (a : List ℕ) → (i % nk ≡ 0 → ⊥) → nk ≤ 6 → a ≡ S.temp nk i a
unfolding S.temp
short_case nk i a g h = rw (ne_eqb (i % nk) 0 g, le-ltb 6 nk h)

added-length : (t : List ℕ) (j : ℕ) → length (S.xored (S.sub_bytes (S.rot_word t)) (S.rcon j)) ≡ 4
unfolding S.xored S.sub_bytes S.rot_word S.rcon
added-length t j = refl

substituted_length : (t : List ℕ) → length (S.sub_bytes t) ≡ length t
unfolding S.sub_bytes
substituted_length t = length-map t S.sub_byte

length-temp : (nk i : ℕ) (t : List ℕ) → length t ≡ 4 → length (S.temp nk i t) ≡ 4
unfolding S.temp
length-temp nk i t e = go (eqb (i % nk) 0) (ltb 6 nk && eqb (i % nk) 4)
  where
    go : (a b : Bool) → length (cond a (S.xored (S.sub_bytes (S.rot_word t)) (S.rcon (i / nk))) (cond b (S.sub_bytes t) t)) ≡ 4
    go true b = added-length t (i / nk)
    go false true = substituted_length t ∙ e
    go false false = e

-- ---- word i

pub quotient_positive : (i n : ℕ) → 0 < n → n ≤ i → 1 ≤ i / n
quotient_positive i n h g =
    let e = div-eq-sub-div h g in
    omega arith

pub next_is : (w : List ℕ) (nk i a b t : ℕ) → be4 a ≡ part w (4 * (i - nk)) 4 → be4 b ≡ part w (4 * (i - 1)) 4 → be4 t ≡ S.temp nk i (be4 b) → be4 (bit_xor a t) ≡ S.next_word nk w i
unfolding S.next_word S.word
next_is w nk i a b t p q r = xor_be4 a t ∙ ap₂ S.xored p (r ∙ ap (S.temp nk i) q)

pub last_word : (w v : List ℕ) (i x : ℕ) → 4 * i + 4 ≤ length w → v ≡ splice w (4 * i) (be4 x) → be4 x ≡ part v (4 * (i + 1 - 1)) 4
unfolding part splice be4
last_word w v i x h p =
    let e : i + 1 - 1 ≡ i = omega arith in
    rw (e, p, drop_at (take (4 * i) w) (be4 x ++ drop 4 (drop (4 * i) w)) (4 * i) (length-take-le (4 * i) w (omega arith)))

-- ---- how long the words are

length-next_word : (nk : ℕ) (w : List ℕ) (i : ℕ) → 0 < nk → nk ≤ i → 4 * i ≤ length w → length (S.next_word nk w i) ≡ 4
unfolding S.next_word S.word
length-next_word nk w i g h l =
    let a = length_part w (4 * (i - nk)) 4 (omega arith) in
    let b = length-temp nk i (part w (4 * (i - 1)) 4) (length_part w (4 * (i - 1)) 4 (omega arith)) in
    length-xored (part w (4 * (i - nk)) 4) (S.temp nk i (part w (4 * (i - 1)) 4)) (omega arith) ∙ a

length-key_words : (nk : ℕ) (k : List ℕ) (n : ℕ) → 0 < nk → length k ≡ 4 * nk → length (S.key_words nk k n) ≡ 4 * (nk + n)
unfolding S.key_words
length-key_words nk k zero h e = omega arith
length-key_words nk k (suc n) h e =
    let l = length-key_words nk k n h e in
    let m = length-next_word nk (S.key_words nk k n) (nk + n) h (omega arith) (omega arith) in
    simp length-append (omega arith)

length-key_bytes : (k : List ℕ) → length (S.key_bytes k) ≡ 4 * S.nk_of (length k)
unfolding S.key_bytes
length-key_bytes k =
    simp (length-append, length-take, length-replicate)
    (⊎_elim
    (λ l.
    let e = (nk_range (length k)).1.1.1 l in
    omega arith)
    (λ g.
    let e = (nk_range (length k)).1.1.0 g in
    omega arith)
    (below? (length k) 16))

length-key_schedule : (k : List ℕ) → length (S.key_schedule k) ≡ 16 * (S.rounds_of (length k) + 1)
unfolding S.key_schedule S.rounds_of
length-key_schedule k =
    let r = nk_range (length k) in
    let nk = S.nk_of (length k) in
    let l = length-key_words nk (S.key_bytes k) (4 * (nk + 6 + 1) - nk) (omega arith) (length-key_bytes k) in
    omega arith

-- ---- the round keys and zeros, 240 bytes

pub length-expanded : (k : List ℕ) → length (S.expanded k) ≡ 240
unfolding S.expanded
length-expanded k =
    let l = length-key_schedule k in
    let r = rounds_range (length k) in
    simp (length-append, length-replicate) (omega arith)

pub length-aes : (k b : List ℕ) → length (S.aes k b) ≡ 16
unfolding S.aes
length-aes k b =
    let l = length-expanded k in
    let r = rounds_range (length k) in
    length-cipher (S.rounds_of (length k)) (S.expanded k) b (omega arith)

padded : (m j : ℕ) (p : List ℕ) → length p + j ≤ m → (p ++ replicate j 0) ++ replicate (m - length (p ++ replicate j 0)) 0 ≡ p ++ replicate (m - length p) 0
padded m j p h =
    let e : j + (m - (length p + j)) ≡ m - length p = omega arith in
    simp (length-append, length-replicate, append_assoc, replicate-append-replicate, e)

taken : (m n : ℕ) (l : List ℕ) → n ≤ m → (m ≤ n) ⊎ (length l ≤ n) → take n l ≡ take m l
taken m n l h u =
    ⊎_elim
    (λ g.
    let e : n ≡ m = omega arith in
    ap (λ (i : ℕ). take i l) e)
    (λ g. take_all n l g ∙ sym (take_all m l (omega arith)))
    u

-- the key laid at the start of zeros
pub laid : (key t z : List ℕ) (nk n : ℕ) → nk ≡ S.nk_of (length key) → n ≡ min (length key) (4 * nk) → t ≡ take n key → z ≡ replicate 240 0
    → t ++ drop n z ≡ C.filled nk (S.key_bytes key) 0
unfolding C.filled S.key_words S.key_bytes
laid key t z nk n e m p q =
    let r = nk_range (length key) in
    let l = length-take (4 * nk) key in
    let u : (4 * nk ≤ n) ⊎ (length key ≤ n) = ⊎_elim (λ h. inr (omega arith)) (λ h. inl (omega arith)) (below? (length key) (4 * nk)) in
    let d : 240 - n ≡ 240 - length (take (4 * nk) key) = omega arith in
    rw (p, q, drop-replicate n 240 0, taken (4 * nk) n key (omega arith) u, d) (rw (← e) (sym (padded 240 (16 - length key) (take (4 * nk) key) (omega arith))))

-- one word more
seam : (m : ℕ) (v x : List ℕ) (a : ℕ) → length v ≡ a → splice (v ++ replicate (m - length v) 0) a x ≡ (v ++ x) ++ replicate (m - length (v ++ x)) 0
unfolding splice
seam m v x a e =
    let z : List ℕ = replicate (m - length v) 0 in
    let d : m - length v - length x ≡ m - (length v + length x) = omega arith in
    rw (take_at v z a e, drop_at v z a e, drop-replicate (length x) (m - length v) 0) (simp (length-append, append_assoc, d))

same_word : (nk : ℕ) (v z : List ℕ) (i : ℕ) → 0 < nk → nk ≤ i → 4 * i ≤ length v → S.next_word nk (v ++ z) i ≡ S.next_word nk v i
unfolding S.next_word S.word
same_word nk v z i g h l = rw (part_first v z (4 * (i - nk)) 4 (omega arith), part_first v z (4 * (i - 1)) 4 (omega arith))

more : (nk : ℕ) (k : List ℕ) (n : ℕ) → 0 < nk → length k ≡ 4 * nk
    → splice (C.filled nk k n) (4 * (nk + n)) (S.next_word nk (C.filled nk k n) (nk + n)) ≡ C.filled nk k (suc n)
unfolding C.filled S.key_words
more nk k n h e =
    let v = S.key_words nk k n in
    let l : length v ≡ 4 * (nk + n) = length-key_words nk k n h e in
    rw (same_word nk v (replicate (240 - length v) 0) (nk + n) h (omega arith) (omega arith)) (seam 240 v (S.next_word nk v (nk + n)) (4 * (nk + n)) l)

pub grown : (key w v : List ℕ) (nk i : ℕ) → nk ≡ S.nk_of (length key) → nk ≤ i → w ≡ C.filled nk (S.key_bytes key) (i - nk)
    → v ≡ splice w (4 * i) (S.next_word nk w i) → v ≡ C.filled nk (S.key_bytes key) (i + 1 - nk)
grown key w v nk i e g p q =
    let r = nk_range (length key) in
    let k = S.key_bytes key in
    let n = i - nk in
    let l : length k ≡ 4 * nk = rw e (length-key_bytes key) in
    let a : i ≡ nk + n = omega arith in
    let b : suc n ≡ i + 1 - nk = omega arith in
    q
    ∙ ap₂ (λ (x : List ℕ) (j : ℕ). splice x (4 * j) (S.next_word nk x j)) p a
    ∙ more nk k n (omega arith) l
    ∙ ap (C.filled nk k) b

-- all words
pub all_words : (key w : List ℕ) (nk i : ℕ) → nk ≡ S.nk_of (length key) → i ≤ 4 * (nk + 7) → 4 * (nk + 7) ≤ i → w ≡ C.filled nk (S.key_bytes key) (i - nk) → w ≡ S.expanded key
unfolding C.filled S.expanded S.key_schedule S.rounds_of
all_words key w nk i e g h p =
    let d : i - nk ≡ 4 * (nk + 6 + 1) - nk = omega arith in
    p ∙ rw (d, e)
