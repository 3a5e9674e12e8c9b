-- The steps of a round, each from what its calls ensure. The offsets of the code are those that the rule of ρ gives, and its constants those
-- of the rule of ι: antt computes both rules.
-- Assumes nothing.
use mathlib.Core.Path.{◌≡◌, sym, ap, ap₂, ◌∙◌}
use mathlib.Core.List.{List, [], ◌∷◌}
use Prim.Native.Nat.{ℕ, zero, suc, ◌+◌, ◌*◌, ◌<◌}
use native.Mathlib.Numerals.{add-one}
use native.Mathlib.Omega.{arith}
use lib.Bits.{bit_xor}
use lib.ListN.{length, get_or}
use Rattle.sha3.specs.Sha3 as S
use Rattle.sha3.specs.Mask as K
use Rattle.sha3.proofs.UpTo.{get_or-up_to}
use Rattle.sha3.proofs.Inverted.{unmasked, length-masked, length-steps}

pub effects_is : (c : List ℕ) {a b d e f : ℕ} → a ≡ S.rotl 1 (get_or c 1 0) → b ≡ S.rotl 1 (get_or c 2 0) → d ≡ S.rotl 1 (get_or c 3 0)
    → e ≡ S.rotl 1 (get_or c 4 0) → f ≡ S.rotl 1 (get_or c 0 0)
    → bit_xor (get_or c 4 0) a ∷ bit_xor (get_or c 0 0) b ∷ bit_xor (get_or c 1 0) d ∷ bit_xor (get_or c 2 0) e ∷ bit_xor (get_or c 3 0) f ∷ [] ≡ S.effects c
unfolding S.effects S.up_to
effects_is c p1 p2 p3 p4 p5 = rw (p1, p2, p3, p4, p5)

-- θ's last step, ρ and π, with the offsets that the rule of ρ gives
pub moved_is : (s d : List ℕ) {v1 v2 v3 v4 v5 v6 v7 v8 v9 v10 v11 v12 v13 v14 v15 v16 v17 v18 v19 v20 v21 v22 v23 v24 : ℕ}
    → v1 ≡ S.rotl 44 (bit_xor (get_or s 6 0) (get_or d 1 0)) → v2 ≡ S.rotl 43 (bit_xor (get_or s 12 0) (get_or d 2 0))
    → v3 ≡ S.rotl 21 (bit_xor (get_or s 18 0) (get_or d 3 0)) → v4 ≡ S.rotl 14 (bit_xor (get_or s 24 0) (get_or d 4 0))
    → v5 ≡ S.rotl 28 (bit_xor (get_or s 3 0) (get_or d 3 0)) → v6 ≡ S.rotl 20 (bit_xor (get_or s 9 0) (get_or d 4 0))
    → v7 ≡ S.rotl 3 (bit_xor (get_or s 10 0) (get_or d 0 0)) → v8 ≡ S.rotl 45 (bit_xor (get_or s 16 0) (get_or d 1 0))
    → v9 ≡ S.rotl 61 (bit_xor (get_or s 22 0) (get_or d 2 0)) → v10 ≡ S.rotl 1 (bit_xor (get_or s 1 0) (get_or d 1 0))
    → v11 ≡ S.rotl 6 (bit_xor (get_or s 7 0) (get_or d 2 0)) → v12 ≡ S.rotl 25 (bit_xor (get_or s 13 0) (get_or d 3 0))
    → v13 ≡ S.rotl 8 (bit_xor (get_or s 19 0) (get_or d 4 0)) → v14 ≡ S.rotl 18 (bit_xor (get_or s 20 0) (get_or d 0 0))
    → v15 ≡ S.rotl 27 (bit_xor (get_or s 4 0) (get_or d 4 0)) → v16 ≡ S.rotl 36 (bit_xor (get_or s 5 0) (get_or d 0 0))
    → v17 ≡ S.rotl 10 (bit_xor (get_or s 11 0) (get_or d 1 0)) → v18 ≡ S.rotl 15 (bit_xor (get_or s 17 0) (get_or d 2 0))
    → v19 ≡ S.rotl 56 (bit_xor (get_or s 23 0) (get_or d 3 0)) → v20 ≡ S.rotl 62 (bit_xor (get_or s 2 0) (get_or d 2 0))
    → v21 ≡ S.rotl 55 (bit_xor (get_or s 8 0) (get_or d 3 0)) → v22 ≡ S.rotl 39 (bit_xor (get_or s 14 0) (get_or d 4 0))
    → v23 ≡ S.rotl 41 (bit_xor (get_or s 15 0) (get_or d 0 0)) → v24 ≡ S.rotl 2 (bit_xor (get_or s 21 0) (get_or d 1 0))
    → bit_xor (get_or s 0 0) (get_or d 0 0) ∷ v1 ∷ v2 ∷ v3 ∷ v4 ∷ v5 ∷ v6 ∷ v7 ∷ v8 ∷ v9 ∷ v10 ∷ v11 ∷ v12 ∷ v13 ∷ v14 ∷ v15 ∷ v16 ∷ v17 ∷ v18 ∷ v19 ∷ v20 ∷ v21 ∷ v22 ∷ v23 ∷ v24 ∷ [] ≡ S.π (S.ρ (S.applied s d))
unfolding S.π S.ρ S.applied S.state S.up_to S.at S.offsets S.visited
moved_is s d p1 p2 p3 p4 p5 p6 p7 p8 p9 p10 p11 p12 p13 p14 p15 p16 p17 p18 p19 p20 p21 p22 p23 p24 =
    rw (p1, p2, p3, p4, p5, p6, p7, p8, p9, p10, p11, p12, p13, p14, p15, p16, p17, p18, p19, p20, p21, p22, p23, p24)

-- ---- the loop: b is the masked state at its start, and s after i rounds

length-rounds : (a : List ℕ) (i : ℕ) → length a ≡ 25 → length (S.rounds a i) ≡ 25
unfolding S.rounds S.round
length-rounds a zero l = l
length-rounds a (suc i) l = length-steps (S.rounds a i) (S.RC i)

unmasked_rounds : (b s : List ℕ) (i : ℕ) → s ≡ K.masked (S.rounds (K.masked b) i) → K.masked s ≡ S.rounds (K.masked b) i
unmasked_rounds b s i p = ap K.masked p ∙ unmasked (S.rounds (K.masked b) i) (length-rounds (K.masked b) i (length-masked b))

pub no_round : (a b : List ℕ) → b ≡ K.masked a → b ≡ K.masked (S.rounds (K.masked b) 0)
unfolding S.rounds
no_round a b p = sym (unmasked b (ap length p ∙ length-masked a))

pub two_more : (b s k r : List ℕ) (i : ℕ) → i < 12 → k ≡ S.up_to 24 S.RC → s ≡ K.masked (S.rounds (K.masked b) (2 * i))
    → r ≡ K.masked (S.steps (S.steps (K.masked s) (get_or k (2 * i) 0)) (get_or k (2 * i + 1) 0)) → r ≡ K.masked (S.rounds (K.masked b) (2 * (i + 1)))
unfolding S.rounds S.round
two_more b s k r i h e p q =
    let c : get_or k (2 * i) 0 ≡ S.RC (2 * i) = ap (λ (x : List ℕ). get_or x (2 * i) 0) e ∙ get_or-up_to 24 S.RC (2 * i) (omega arith) in
    let d : get_or k (2 * i + 1) 0 ≡ S.RC (suc (2 * i)) = ap (λ (x : List ℕ). get_or x (2 * i + 1) 0) e ∙ get_or-up_to 24 S.RC (2 * i + 1) (omega arith) ∙ ap S.RC (add-one (2 * i)) in
    let n : 2 * (i + 1) ≡ suc (suc (2 * i)) = omega arith in
    q ∙ rw (c, d, unmasked_rounds b s (2 * i) p, n)

pub all-rounds : (a b s r : List ℕ) (i : ℕ) → length a ≡ 25 → b ≡ K.masked a → i ≡ 12 → s ≡ K.masked (S.rounds (K.masked b) (2 * i)) → r ≡ K.masked s
    → r ≡ S.keccak_f a
unfolding S.keccak_f
all-rounds a b s r i l m e p q =
    let n : 2 * i ≡ 24 = omega arith in
    q ∙ unmasked_rounds b s (2 * i) p ∙ ap₂ S.rounds (ap K.masked m ∙ unmasked a l) n
