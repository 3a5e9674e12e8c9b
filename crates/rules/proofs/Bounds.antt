-- How large the numbers of the rules are: fields, widths, counts, times and slots. Assumes nothing.
use Prim.Native.Nat.{ℕ, zero, suc, ◌+◌, ◌-◌, ◌*◌, ◌/◌, ◌%◌, ◌^◌, ◌≤◌, ◌<◌}
use mathlib.Core.Path.{◌≡◌, refl}
use mathlib.Core.Logic.{◌≢◌, ◌⊎◌, inl, inr, ⊎_elim}
use mathlib.Core.Bool.{Bool, true, false, cond, ◌&&◌}
use mathlib.Core.List.{List, [], ◌∷◌}
use native.Mathlib.Nat.{pow-suc, mul-le-mul, mod-lt}
use native.Mathlib.Omega.{arith}
use lib.Dec.{eqb, leb, ltb}
use lib.ListN.{length, get_or}
use borrow.Author.Tests.{leb-true, ltb-true, ltb-false, eqb-false, lt-ltb}
use Rattle.laws.proofs.Refusal.{by_test}
use Rattle.laws.proofs.Table.{table_range}
use Rattle.laws.proofs.Tests.{and_left, and_right, neither}
use Rattle.rules.specs.Bits.{bit, bits, within}
use Rattle.rules.specs.Chain.{sent_slot}
use Rattle.rules.specs.Gather.{dsm_id_of, block_id_of, status_of, total_of, blocks_for}
use Rattle.rules.specs.Kroot.{key_width, tag_width, pkid_of, offer_id}
use Rattle.rules.specs.Pkr.{new_id_of, new_type_of, new_key_of, emergency, pkr_size_bad}
use Rattle.rules.specs.PublicKeys.{key_length}
use Rattle.rules.specs.State.{ns_of, held_slot, waiting_count, prn_valid}
use Rattle.rules.specs.Tags.{mac_code, mac_bits}
use Rattle.rules.specs.Times.{seconds_of, week_of, second_of, time_valid, slot_of, subframe_at}
use Rattle.rules.specs.declared.Chain.{Chain}
use Rattle.rules.proofs.Parts.{length-part_most}

-- ---- fields

pub within_range : (low high n : ℕ) → within low high n ≡ true → (low ≤ n) × (n ≤ high)
within_range low high n e = (leb-true low n (and_left (leb low n) (leb n high) e), leb-true n high (and_right (leb low n) (leb n high) e))

pub bits_lt : (s : List ℕ) (at n : ℕ) → bits s at n < 2 ^ n
unfolding bits bit
bits_lt s at zero = omega arith
bits_lt s at (suc n) =
    let i = bits_lt s at n in
    let p = pow-suc 2 n in
    omega arith

pub prn_range : (prn : ℕ) → prn_valid prn ≡ true → (1 ≤ prn) × (prn ≤ 36)
unfolding prn_valid
prn_range prn e = within_range 1 36 prn e

pub status_bound : (header : ℕ) → status_of header < 4
unfolding status_of
status_bound header = omega arith

pub dsm_id_bound : (hk : List ℕ) → dsm_id_of hk < 16
unfolding dsm_id_of
dsm_id_bound hk = omega arith

pub block_id_bound : (hk : List ℕ) → block_id_of hk < 16
unfolding block_id_of
block_id_bound hk = omega arith

pub offer_id_bound : (offer : List ℕ) → offer_id offer < 16
unfolding offer_id
offer_id_bound offer = omega arith

pub pkid_bound : (d : List ℕ) → pkid_of d < 16
unfolding pkid_of
pkid_bound d = bits_lt d 4 4

-- a tag of n bits is compared in n bits, not in whole bytes
pub mac_bound : (mf n : ℕ) (key message : List ℕ) → mac_bits mf n key message < 2 ^ n
unfolding mac_bits
mac_bound mf n key message = bits_lt (mac_code mf key message) 0 n

-- ---- counts of blocks: none, or 7 to 16

counts : (nb : ℕ) (a b : Bool) → leb 1 nb ≡ a → leb nb 10 ≡ b → (cond (a && b) (nb + 6) 0 ≡ 0) ⊎ ((7 ≤ cond (a && b) (nb + 6) 0) × (cond (a && b) (nb + 6) 0 ≤ 16))
counts nb true true p q =
    let h = leb-true 1 nb p in
    let k = leb-true nb 10 q in
    inr (omega arith, omega arith)
counts nb true false p q = inl refl
counts nb false b p q = inl refl

count_cases : (nb : ℕ) → (blocks_for nb ≡ 0) ⊎ ((7 ≤ blocks_for nb) × (blocks_for nb ≤ 16))
unfolding blocks_for
count_cases nb = counts nb (leb 1 nb) (leb nb 10) refl refl

pub total_cases : (d : List ℕ) → (total_of d ≡ 0) ⊎ ((7 ≤ total_of d) × (total_of d ≤ 16))
unfolding total_of
total_cases d = count_cases (get_or d 0 0 / 16)

pub total_bound : (d : List ℕ) → total_of d ≤ 16
total_bound d = ⊎_elim (λ e. omega arith) (λ h. h.1) (total_cases d)

pub total_least : (d : List ℕ) → 1 ≤ total_of d → 7 ≤ total_of d
total_least d k = ⊎_elim (λ e. absurd (omega arith)) (λ h. h.0) (total_cases d)

-- ---- widths

pub key_width_range : (code : ℕ) → (12 ≤ key_width code) × (key_width code ≤ 32)
unfolding key_width
key_width_range code = table_range 12 32 32 (12 ∷ 13 ∷ 14 ∷ 15 ∷ 16 ∷ 20 ∷ 24 ∷ 28 ∷ 32 ∷ []) tt (omega arith) (omega arith) code

pub key_width_bound : (code : ℕ) → key_width code ≤ 32
key_width_bound code = (key_width_range code).1

pub tag_width_bound : (code : ℕ) → tag_width code ≤ 40
unfolding tag_width
tag_width_bound code = (table_range 10 40 40 (10 ∷ 12 ∷ 14 ∷ 16 ∷ 18 ∷ 20 ∷ 24 ∷ 28 ∷ 32 ∷ 40 ∷ []) tt (omega arith) (omega arith) code).1

pub key-length_bound : (type : ℕ) → key_length type ≤ 67
unfolding key_length
key-length_bound type = (table_range 29 67 67 (29 ∷ 33 ∷ 49 ∷ 67 ∷ []) tt (omega arith) (omega arith) type).1

-- ---- the new key of a DSM-PKR

pub new_id_bound : (d : List ℕ) → new_id_of d < 16
unfolding new_id_of
new_id_bound d = bits_lt d 1036 4

pub new_key_short : (d : List ℕ) → length (new_key_of d) ≤ 67
unfolding new_key_of
new_key_short d =
    let a = length-part_most d 130 (key_length (new_type_of d)) in
    let b = key-length_bound (new_type_of d) in
    omega arith

not_four : (d : List ℕ) → emergency d ≡ false → new_type_of d ≢ 4
unfolding emergency
not_four d e = eqb-false (new_type_of d) 4 e

-- a message of the right size that is no emergency message has a type 0 to 3
pub new_type_bound : (d : List ℕ) → pkr_size_bad d ≡ false → emergency d ≡ false → new_type_of d < 4
unfolding pkr_size_bad
new_type_bound d s e =
    let a = neither (ltb 4 (new_type_of d)) _ (rw e at s) in
    let b = ltb-false 4 (new_type_of d) a.0 in
    let c = not_four d e in
    omega (arith, b, c)

-- ---- the count of waiting tags

pub count_bound : (numbers : List ℕ) → waiting_count numbers ≤ 256
unfolding waiting_count
count_bound numbers = by_test (λ (n : ℕ). n ≤ 256) (leb (get_or numbers 1 0) 256) (λ e. leb-true (get_or numbers 1 0) 256 e) (λ _. omega arith)

-- a count that was written is read as itself, or as none
pub count-written : (slot n : ℕ) → waiting_count (slot ∷ n ∷ []) ≤ n
unfolding waiting_count
count-written slot n = by_test (λ (k : ℕ). k ≤ n) (leb n 256) (λ _. omega arith) (λ _. omega arith)

-- ---- slots stay below 2^34: weeks up to 4095, NS up to 36, NMACK up to 3

pub ns_range : (config : List ℕ) → (1 ≤ ns_of config) × (ns_of config ≤ 36)
unfolding ns_of
ns_range config =
    by_test (λ (n : ℕ). (1 ≤ n) × (n ≤ 36)) (within 1 36 (get_or config 0 0)) (λ e. within_range 1 36 (get_or config 0 0) e) (λ _. (omega arith, omega arith))

pub time_bound : (t : ℕ) → time_valid t ≡ true → t < 2 ^ 32
unfolding time_valid second_of week_of
time_bound t h =
    let b = ltb-true (t / 2 ^ 20) 4096 (and_right (eqb (t % 2 ^ 20 % 30) 0) _ (and_right (leb (t % 2 ^ 20) 604770) _ h)) in
    omega arith

seconds_bound : (t : ℕ) → time_valid t ≡ true → seconds_of t < 2477260800
unfolding time_valid seconds_of second_of week_of
seconds_bound t h =
    let a = leb-true (t % 2 ^ 20) 604770 (and_left (leb (t % 2 ^ 20) 604770) _ h) in
    let b = ltb-true (t / 2 ^ 20) 4096 (and_right (eqb (t % 2 ^ 20 % 30) 0) _ (and_right (leb (t % 2 ^ 20) 604770) _ h)) in
    omega arith

pub slot_bound : (c : Chain) (t b prn : ℕ) → 1 ≤ c.ns → c.ns ≤ 36 → c.nmack ≤ 3 → b < c.nmack → time_valid t ≡ true → sent_slot c t (suc b) prn < 2 ^ 34
unfolding sent_slot slot_of subframe_at
slot_bound c t b prn low high few in_section v =
    let s = seconds_bound t v in
    let q : (seconds_of t - c.root) / 30 ≤ 82575360 = omega arith in
    let p1 : (seconds_of t - c.root) / 30 * c.ns ≤ 82575360 * 36 = mul-le-mul {n₂ = 82575360} {m₂ = 36} q high in
    let p2 : (seconds_of t - c.root) / 30 * c.ns * c.nmack ≤ 82575360 * 36 * 3 = mul-le-mul {n₂ = 82575360 * 36} {m₂ = 3} p1 few in
    let p3 : (suc b - 1) * c.ns ≤ 3 * 36 = mul-le-mul {n₂ = 3} {m₂ = 36} (omega arith) high in
    let r : (prn - 1) % c.ns < c.ns = mod-lt (prn - 1) low in
    omega arith

pub held_bound : (numbers : List ℕ) → held_slot numbers < 2 ^ 34
unfolding held_slot
held_bound numbers = by_test (λ (n : ℕ). n < 2 ^ 34) (ltb (get_or numbers 0 0) 17179869184) (λ e. ltb-true (get_or numbers 0 0) 17179869184 e) (λ _. omega arith)

-- such a slot reads back
pub held-written : (slot n : ℕ) → slot < 2 ^ 34 → held_slot (slot ∷ n ∷ []) ≡ slot
unfolding held_slot
held-written slot n h = rw (lt-ltb slot 17179869184 h) refl
