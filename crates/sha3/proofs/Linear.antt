-- θ, ρ and π of a sum of two states are the sums of theirs.
-- Assumes nothing.
use mathlib.Core.Path.{◌≡◌, sym, ap, ap₂, ◌∙◌}
use mathlib.Core.List.{List}
use Prim.Native.Nat.{ℕ, ◌+◌, ◌-◌, ◌*◌, ◌/◌, ◌%◌, ◌^◌, ◌<◌}
use native.Mathlib.Nat.{add-zero}
use native.Mathlib.Omega.{arith}
use lib.Bits.{bit_xor, xor_comm, xor_mod, xor_shr, xor_block}
use lib.ListN.{get_or}
use lib.Pow.{pow_pos}
use Rattle.laws.proofs.Bits.{xor_assoc}
use Rattle.sha3.specs.Sha3 as S
use Rattle.sha3.proofs.UpTo.{same-up_to, get_or-up_to}

-- ---- lanes

pub cross : (a b c d : ℕ) → bit_xor (bit_xor a b) (bit_xor c d) ≡ bit_xor (bit_xor a c) (bit_xor b d)
cross a b c d =
    let e : bit_xor b (bit_xor c d) ≡ bit_xor c (bit_xor b d) = sym (xor_assoc b c d) ∙ ap (λ (x : ℕ). bit_xor x d) (xor_comm b c) ∙ xor_assoc c b d in
    xor_assoc a b (bit_xor c d) ∙ ap (bit_xor a) e ∙ sym (xor_assoc a c (bit_xor b d))

xor_shl : (x y n : ℕ) → bit_xor x y * 2 ^ n ≡ bit_xor (x * 2 ^ n) (y * 2 ^ n)
xor_shl x y n =
    sym (add-zero (bit_xor x y * 2 ^ n))
    ∙ sym (xor_block n x y 0 0 (pow_pos n) (pow_pos n))
    ∙ ap₂ bit_xor (add-zero (x * 2 ^ n)) (add-zero (y * 2 ^ n))

rotl_xor : (n x y : ℕ) → S.rotl n (bit_xor x y) ≡ bit_xor (S.rotl n x) (S.rotl n y)
unfolding S.rotl
rotl_xor n x y =
    ap₂ bit_xor (ap (λ (z : ℕ). z % 2 ^ 64) (xor_shl x y n) ∙ xor_mod (x * 2 ^ n) (y * 2 ^ n) 64) (xor_shr x y (64 - n))
    ∙ cross ((x * 2 ^ n) % 2 ^ 64) ((y * 2 ^ n) % 2 ^ 64) (x / 2 ^ (64 - n)) (y / 2 ^ (64 - n))

-- a column
five : (a b c d e p q r s t : ℕ)
    → bit_xor (bit_xor (bit_xor (bit_xor (bit_xor a p) (bit_xor b q)) (bit_xor c r)) (bit_xor d s)) (bit_xor e t)
    ≡ bit_xor (bit_xor (bit_xor (bit_xor (bit_xor a b) c) d) e) (bit_xor (bit_xor (bit_xor (bit_xor p q) r) s) t)
five a b c d e p q r s t =
    ap (λ (x : ℕ). bit_xor (bit_xor (bit_xor x (bit_xor c r)) (bit_xor d s)) (bit_xor e t)) (cross a p b q)
    ∙ ap (λ (x : ℕ). bit_xor (bit_xor x (bit_xor d s)) (bit_xor e t)) (cross (bit_xor a b) (bit_xor p q) c r)
    ∙ ap (λ (x : ℕ). bit_xor x (bit_xor e t)) (cross (bit_xor (bit_xor a b) c) (bit_xor (bit_xor p q) r) d s)
    ∙ cross (bit_xor (bit_xor (bit_xor a b) c) d) (bit_xor (bit_xor (bit_xor p q) r) s) e t

-- what is added to a column
effect : (a b c d : ℕ) → bit_xor (bit_xor a b) (S.rotl 1 (bit_xor c d)) ≡ bit_xor (bit_xor a (S.rotl 1 c)) (bit_xor b (S.rotl 1 d))
effect a b c d = ap (bit_xor (bit_xor a b)) (rotl_xor 1 c d) ∙ cross a b (S.rotl 1 c) (S.rotl 1 d)

-- ---- steps

-- n lanes, added
unfoldable sums : ℕ → List ℕ → List ℕ → List ℕ
sums n s t = S.up_to n (λ i. bit_xor (get_or s i 0) (get_or t i 0))

columns-sum : (s t : List ℕ) → S.columns (S.added s t) ≡ sums 5 (S.columns s) (S.columns t)
unfolding S.columns S.added S.up_to S.at sums
columns-sum s t = rw (five, five, five, five, five)

effects-sum : (s t : List ℕ) → S.effects (sums 5 s t) ≡ sums 5 (S.effects s) (S.effects t)
unfolding S.effects S.up_to sums
effects-sum s t = rw (effect, effect, effect, effect, effect)

applied-sum : (s t d e : List ℕ) → S.applied (S.added s t) (sums 5 d e) ≡ S.added (S.applied s d) (S.applied t e)
unfolding S.applied S.state S.added S.at sums
applied-sum s t d e =
    same-up_to 25 _ _
    (λ i h.
    let x : 5 * (i / 5) + i % 5 < 25 = omega arith in
    let y : i % 5 < 5 = omega arith in
    let j = 5 * (i / 5) + i % 5 in
    rw (get_or-up_to, get_or-up_to, get_or-up_to, get_or-up_to) (cross (get_or s j 0) (get_or t j 0) (get_or d (i % 5) 0) (get_or e (i % 5) 0)))

moved_sum : (s t : List ℕ) → S.π (S.ρ (S.added s t)) ≡ S.added (S.π (S.ρ s)) (S.π (S.ρ t))
unfolding S.π S.ρ S.added S.state S.up_to S.at S.offsets S.visited
moved_sum s t = simp rotl_xor

pub linear : (s t : List ℕ) → S.π (S.ρ (S.θ (S.added s t))) ≡ S.added (S.π (S.ρ (S.θ s))) (S.π (S.ρ (S.θ t)))
unfolding S.θ
linear s t =
    let c : S.effects (S.columns (S.added s t)) ≡ sums 5 (S.effects (S.columns s)) (S.effects (S.columns t)) =
    ap S.effects (columns-sum s t) ∙ effects-sum (S.columns s) (S.columns t) in
    ap (λ (d : List ℕ). S.π (S.ρ (S.applied (S.added s t) d))) c
    ∙ ap (λ (x : List ℕ). S.π (S.ρ x)) (applied-sum s t (S.effects (S.columns s)) (S.effects (S.columns t)))
    ∙ moved_sum (S.applied s (S.effects (S.columns s))) (S.applied t (S.effects (S.columns t)))
