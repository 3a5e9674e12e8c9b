-- Tag messages as the bytes that are stored, and the MACSEQ message as it grows, field by field.
-- Assumes nothing.
use mathlib.Core.Path.{◌≡◌, refl, ap, ◌∙◌}
use mathlib.Core.Bool.{Bool, true, false, cond}
use mathlib.Core.List.{List, [], ◌∷◌, ◌++◌}
use Prim.Native.Nat.{ℕ, zero, suc, ◌+◌, ◌-◌, ◌/◌, ◌%◌, ◌≤◌}
use native.Mathlib.Omega.{arith}
use native.Mathlib.Numerals.{add-one}
use lib.ListN.{length, take, drop}
use lib.Seq.{take_all}
use Rattle.laws.specs.Lists.{splice}
use Rattle.laws.specs.Bytes.{be2, be4}
use Rattle.laws.proofs.Splice.{lent, splice-append, splice_whole, take-splice}
use Rattle.navdata.proofs.Sets.{length_status_and-set}
use Rattle.rules.specs.Mack.{field_info}
use Rattle.rules.specs.Tags.{status_and_set, first_message, tag_message, macseq_message, flexible}
use Rattle.rules.specs.declared.Chain.{Chain}
use Rattle.rules.specs.declared.Tag.{Tag}
use Rattle.tags.specs.Layout.{section}

-- ---- tags

-- the bytes before the NMA status
abbrev head : Tag → List ℕ
head t =
    t.prn ∷ t.sender ∷ t.time / 16777216 % 256 ∷ t.time / 65536 % 256 ∷ t.time / 256 % 256 ∷ t.time % 256 ∷ t.position ∷ []

pub message_whole : (d : List ℕ) (t : Tag) (s : List ℕ) → length d ≡ 76 → splice (head t ++ drop 7 d) 7 (status_and_set t.status s) ≡ tag_message t s
unfolding tag_message first_message be4
message_whole d t s e =
    let n = length_status_and-set t.status s in
    let k : length (head t) ≡ 7 = refl in
    let m : length (head t ++ status_and_set t.status s) ≡ 76 = omega arith in
    ap (λ (l : List ℕ). splice l 7 (status_and_set t.status s)) (lent d 0 7 (head t) refl)
    ∙ splice-append d 0 (head t) (status_and_set t.status s) (omega arith)
    ∙ splice_whole d (head t ++ status_and_set t.status s) (omega arith)

pub length_first : (t : Tag) (s : List ℕ) → length (first_message t s) ≡ 75
unfolding first_message be4
length_first t s =
    let n = length_status_and-set t.status s in
    omega arith

-- tag0's message is the rest after PRN_N
pub rest_of_message : (m : List ℕ) (t : Tag) (s : List ℕ) → m ≡ tag_message t s → take (76 - 1) (drop 1 m) ≡ first_message t s
unfolding tag_message
rest_of_message m t s e = rw e (take_all 75 (first_message t s) (omega (arith, length_first t s)))

-- ---- MACSEQ

-- PRN_A and the time
abbrev sender : ℕ → ℕ → List ℕ
sender p t = p ∷ t / 16777216 % 256 ∷ t / 65536 % 256 ∷ t / 256 % 256 ∷ t % 256 ∷ []

pub sender_in : (config : List ℕ) (c : Chain) (p t : ℕ) (mack d u : List ℕ) → u ≡ sender p t ++ drop 5 d
    → take 5 u ≡ macseq_message config c (section p t 0 mack) 0
unfolding macseq_message be4
sender_in config c p t mack d u e = rw e

info_length : (b : Bool) (v : ℕ) → (length (cond b (be2 v) []) ≡ cond b 2 0) × (cond b 2 0 ≤ 2)
unfolding be2
info_length true v = (refl, omega arith)
info_length false v = (refl, omega arith)

-- one field more, whose MAC-Info is v
pub info_in : (config : List ℕ) (c : Chain) (p t : ℕ) (mack : List ℕ) (j n r v : ℕ) (d u : List ℕ) → n + 2 ≤ length d
    → take n d ≡ macseq_message config c (section p t 0 mack) j
    → v ≡ field_info c mack j
    → u ≡ splice d n (cond (flexible config t j) (be2 v) [])
    → r ≡ n + cond (flexible config t j) 2 0
    → (r ≤ n + 2) × (take r u ≡ macseq_message config c (section p t 0 mack) (j + 1))
unfolding macseq_message
info_in config c p t mack j n r v d u h m i e f =
    let x : List ℕ = cond (flexible config t j) (be2 v) [] in
    let l = info_length (flexible config t j) v in
    let q : r ≡ n + length x = omega arith in
    (omega arith, rw (q, e, add-one j, take-splice d n x (omega arith), m, ← i))

-- the NMA status plays no part
pub any_status : (config : List ℕ) (c : Chain) (p t : ℕ) (mack : List ℕ) (s : ℕ) (n : ℕ)
    → macseq_message config c (section p t 0 mack) n ≡ macseq_message config c (section p t s mack) n
unfolding macseq_message
any_status config c p t mack s zero = refl
any_status config c p t mack s (suc n) =
    ap (λ (l : List ℕ). l ++ cond (flexible config t n) (be2 (field_info c mack n)) []) (any_status config c p t mack s n)
