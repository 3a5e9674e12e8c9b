-- Each bit of a set's 69 bytes is the one that its row of the table names, and the last three are zero, for any five words.
-- Assumes nothing.
use mathlib.Core.Path.{◌≡◌, refl, sym, ap, ◌∙◌}
use mathlib.Core.Bool.{true, false}
use mathlib.Core.List.{List, [], ◌++◌, append-nil}
use mathlib.Core.Logic.{⊎_elim}
use Prim.Native.Nat.{ℕ, zero, suc, ◌+◌, ◌-◌, ◌*◌, ◌/◌, ◌%◌, ◌^◌, ◌≤◌, ◌<◌}
use native.Mathlib.Omega.{arith}
use native.Mathlib.Nat.{zero-add, add-zero, add-suc}
use borrow.Author.Tests.{lt-ltb, le-ltb}
use lib.Dec.{ltb}
use lib.ListN.{length, get_or, drop, get_or-append}
use lib.Seq.{get_or-drop}
use Rattle.laws.proofs.Fill.{get_d_past}
use Rattle.laws.proofs.Splice.{below?}
use Rattle.rules.specs.Bits.{bit, bit_list, octet, packed}
use Rattle.rules.specs.Navdata.{set_bits, set_bytes}
use Rattle.bitfields.proofs.Packing.{length-bit_list, get_or-bit_list, get_or-packed}
use Rattle.nav_sets.proofs.Eights.{Bits, bits-drop, bit_list-bits, bits-append}
use Rattle.nav_sets.specs.Table.{last_bit, following, row, set_bit, five}

-- ---- the table

-- row by row through a word
run_on : (i k j : ℕ) → row i ≡ record { word = k; place = 6 } → 6 + j ≤ last_bit k → row (i + j) ≡ record { word = k; place = 6 + j }
unfolding row following
run_on i k zero e h = rw (add-zero i) e
run_on i k (suc j) e h =
    let t : ltb (6 + j) (last_bit k) ≡ true = lt-ltb (6 + j) (last_bit k) (omega arith) in
    rw (add-suc i j, run_on i k j e (omega arith), t) (ap (λ (x : ℕ). record { word = k; place = x }) (omega arith))

-- the rows where a word begins, and the last one, as the checker computes them
word_1 : row 0 ≡ record { word = 1; place = 6 }
unfolding row following last_bit
word_1 = refl

word_2 : row 120 ≡ record { word = 2; place = 6 }
unfolding row following last_bit
word_2 = refl

word_3 : row 240 ≡ record { word = 3; place = 6 }
unfolding row following last_bit
word_3 = refl

word_4 : row 362 ≡ record { word = 4; place = 6 }
unfolding row following last_bit
word_4 = refl

word_5 : row 482 ≡ record { word = 5; place = 6 }
unfolding row following last_bit
word_5 = refl

pub table_ends : row 548 ≡ record { word = 5; place = 72 }
unfolding row following last_bit
table_ends = refl

-- ---- packed bits

-- a bit of a byte
bit_of_octet : (l : List ℕ) (r : ℕ) → Bits l → r < 8 → octet l / 2 ^ (7 - r) % 2 ≡ get_or l r 0
unfolding octet
bit_of_octet l zero f h = omega (arith, f 0, f 1, f 2, f 3, f 4, f 5, f 6, f 7)
bit_of_octet l (suc zero) f h = omega (arith, f 0, f 1, f 2, f 3, f 4, f 5, f 6, f 7)
bit_of_octet l (suc (suc zero)) f h = omega (arith, f 0, f 1, f 2, f 3, f 4, f 5, f 6, f 7)
bit_of_octet l (suc (suc (suc zero))) f h = omega (arith, f 0, f 1, f 2, f 3, f 4, f 5, f 6, f 7)
bit_of_octet l (suc (suc (suc (suc zero)))) f h = omega (arith, f 0, f 1, f 2, f 3, f 4, f 5, f 6, f 7)
bit_of_octet l (suc (suc (suc (suc (suc zero))))) f h = omega (arith, f 0, f 1, f 2, f 3, f 4, f 5, f 6, f 7)
bit_of_octet l (suc (suc (suc (suc (suc (suc zero)))))) f h = omega (arith, f 0, f 1, f 2, f 3, f 4, f 5, f 6, f 7)
bit_of_octet l (suc (suc (suc (suc (suc (suc (suc zero))))))) f h = omega (arith, f 0, f 1, f 2, f 3, f 4, f 5, f 6, f 7)
bit_of_octet l (suc (suc (suc (suc (suc (suc (suc (suc r)))))))) f h = absurd (omega arith)

-- a bit of packed bits
bit-packed : (l : List ℕ) (n i : ℕ) → Bits l → i < 8 * n → bit (packed l n) i ≡ get_or l i 0
unfolding bit
bit-packed l n i f h =
    let e : 8 * (i / 8) + i % 8 ≡ i = omega arith in
    rw (get_or-packed l n (i / 8) (omega arith))
    (bit_of_octet (drop (8 * (i / 8)) l) (i % 8) (bits-drop (8 * (i / 8)) l f) (omega arith)
    ∙ get_or-drop (8 * (i / 8)) l (i % 8) 0
    ∙ ap (λ (k : ℕ). get_or l k 0) e)

-- ---- the theorem

-- the bits of word k, where row b is its first, before bits that follow the table
through : (words : ℕ → List ℕ) (k b n : ℕ) (rest : List ℕ) → row b ≡ record { word = k; place = 6 } → n + 5 ≤ last_bit k → b + n ≤ 549
    → ((j : ℕ) → get_or rest j 0 ≡ set_bit words (b + n + j)) → (j : ℕ) → get_or (bit_list (words k) 6 n ++ rest) j 0 ≡ set_bit words (b + j)
unfolding set_bit
through words k b n rest e h l f j =
    ⊎_elim
    (λ p.
    let t : ltb (b + j) 549 ≡ true = lt-ltb (b + j) 549 (omega arith) in
    get_or-append (bit_list (words k) 6 n) rest 0 j (omega (arith, length-bit_list (words k) 6 n))
    ∙ get_or-bit_list (words k) 6 n j p
    ∙ rw (t, run_on b k j e (omega arith)))
    (λ p.
    let m : j - n ≡ j - length (bit_list (words k) 6 n) = rw (length-bit_list (words k) 6 n) in
    let i : b + n + (j - n) ≡ b + j = omega arith in
    get_d_past (bit_list (words k) 6 n) rest j (omega (arith, length-bit_list (words k) 6 n))
    ∙ ap (λ (x : ℕ). get_or rest x 0) (sym m)
    ∙ f (j - n)
    ∙ ap (set_bit words) i)
    (below? j n)

-- after the last row there are zeros
nothing : (words : ℕ → List ℕ) (j : ℕ) → get_or {A = ℕ} [] j 0 ≡ set_bit words (549 + j)
unfolding set_bit
nothing words j =
    let t : ltb (549 + j) 549 ≡ false = le-ltb (549 + j) 549 (omega arith) in
    rw t

-- a set's bits are bits
bits_of_set : (w1 w2 w3 w4 w5 : List ℕ) → Bits (set_bits w1 w2 w3 w4 w5)
unfolding set_bits
bits_of_set w1 w2 w3 w4 w5 =
    bits-append (bit_list w1 6 120) _ (bit_list-bits w1 6 120)
    (bits-append (bit_list w2 6 120) _ (bit_list-bits w2 6 120)
    (bits-append (bit_list w3 6 122) _ (bit_list-bits w3 6 122)
    (bits-append (bit_list w4 6 120) (bit_list w5 6 67) (bit_list-bits w4 6 120) (bit_list-bits w5 6 67))))

-- each of the 552 bits, for any five words
pub each_bit : (w1 w2 w3 w4 w5 : List ℕ) (i : ℕ) → i < 552 → bit (set_bytes w1 w2 w3 w4 w5) i ≡ set_bit (five w1 w2 w3 w4 w5) i
unfolding set_bytes set_bits five last_bit
each_bit w1 w2 w3 w4 w5 i h =
    let words : ℕ → List ℕ = five w1 w2 w3 w4 w5 in
    let all : List ℕ = set_bits w1 w2 w3 w4 w5 in
    let row-by-row =
    through words 1 0 120 (bit_list w2 6 120 ++ (bit_list w3 6 122 ++ (bit_list w4 6 120 ++ bit_list w5 6 67))) word_1 (omega arith) (omega arith)
    (through words 2 120 120 (bit_list w3 6 122 ++ (bit_list w4 6 120 ++ bit_list w5 6 67)) word_2 (omega arith) (omega arith)
    (through words 3 240 122 (bit_list w4 6 120 ++ bit_list w5 6 67) word_3 (omega arith) (omega arith)
    (through words 4 362 120 (bit_list w5 6 67) word_4 (omega arith) (omega arith)
    (λ j. rw (← append-nil (bit_list w5 6 67)) (through words 5 482 67 [] word_5 (omega arith) (omega arith) (nothing words) j))))) in
    bit-packed all 69 i (bits_of_set w1 w2 w3 w4 w5) (omega arith) ∙ row-by-row i ∙ ap (set_bit words) (zero-add i)
