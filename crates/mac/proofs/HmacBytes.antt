-- HMAC's hash values are read back from the bytes that were put: each word is below 2 ^ 32.
-- Assumes nothing.
use mathlib.Core.Path.{◌≡◌, refl, sym, ◌∙◌}
use mathlib.Core.List.{List, [], ◌∷◌, ◌++◌, append_assoc}
use Prim.Native.Nat.{ℕ, ◌+◌, ◌-◌, ◌*◌, ◌/◌, ◌%◌, ◌^◌, ◌<◌}
use native.Mathlib.Omega.{arith}
use borrow.Rule.Slice.PartMut.{put_mid}
use lib.ListN.{length, drop, replicate, length-append}
use lib.Seq.{take_at, drop_at}
use Rattle.laws.specs.Bytes.{be4, u32at}
use Rattle.laws.proofs.Numbers.{u32at-be4}
use Rattle.laws.proofs.Splice.{drop-replicate}
use Rattle.sha256.specs.Sha256 as S
use Rattle.hmac.specs.Hmac.{key_of, inner_pad, outer_pad}
use Rattle.hmac.specs.declared.HmacKey.{HmacKey}
use Rattle.rules.specs.Bits.{filled}
use Rattle.mac.specs.Kept.{hmac_kept, words_at}

-- words of 32 bits
abbrev Word : ℕ → Type 0
Word x = x < 2 ^ 32

-- a word's bytes as a number
four : (x : ℕ) → Word x → x / 256 ^ 3 % 256 * 256 ^ 3 + x / 256 ^ 2 % 256 * 256 ^ 2 + x / 256 % 256 * 256 + x % 256 ≡ x
unfolding be4 u32at
four x h = u32at-be4 x h

-- eight words, read back from the front
eight_back : (a b c d e f g h : ℕ) (rest : List ℕ) → Word a → Word b → Word c → Word d → Word e → Word f → Word g → Word h
    → words_at (S.bytes (a ∷ b ∷ c ∷ d ∷ e ∷ f ∷ g ∷ h ∷ []) ++ rest) 0 ≡ a ∷ b ∷ c ∷ d ∷ e ∷ f ∷ g ∷ h ∷ []
unfolding words_at S.bytes be4 u32at
eight_back a b c d e f g h rest wa wb wc wd we wf wg wh =
    rw (four a wa, four b wb, four c wc, four d wd, four e we, four f wf, four g wg, four h wh)

-- behind eight words stands what follows them
eight_past : (a b c d e f g h : ℕ) (rest : List ℕ)
    → words_at (S.bytes (a ∷ b ∷ c ∷ d ∷ e ∷ f ∷ g ∷ h ∷ []) ++ rest) 32 ≡ words_at rest 0
unfolding words_at S.bytes be4 u32at
eight_past a b c d e f g h rest = refl

add-word : (x y : ℕ) → Word (S.add x y)
unfolding S.add
add-word x y = omega arith

-- a hash value after a block, first or second
pub front_back : (h b rest : List ℕ) → words_at (S.bytes (S.compress h b) ++ rest) 0 ≡ S.compress h b
unfolding S.compress S.sums
front_back h b rest = eight_back _ _ _ _ _ _ _ _ rest (add-word _ _) (add-word _ _) (add-word _ _) (add-word _ _) (add-word _ _) (add-word _ _) (add-word _ _) (add-word _ _)

pub second_back : (h b rest : List ℕ) → words_at (S.bytes (S.compress h b) ++ rest) 32 ≡ words_at rest 0
unfolding S.compress S.sums
second_back h b rest = eight_past _ _ _ _ _ _ _ _ rest

-- two pieces put after each other into zeros
laid_in : (n : ℕ) (x y z : List ℕ) → length x ≡ 32 → length y ≡ 32 → z ≡ replicate n 0 → put_mid 32 32 (x ++ drop 32 z) y ≡ filled n (x ++ y)
unfolding filled
laid_in n x y z p q e =
    let d : n - length (x ++ y) ≡ n - 32 - 32 = simp length-append (omega arith) in
    rw (e, drop-replicate 32 n 0, take_at x (replicate (n - 32) 0) 32 p, drop_at x (replicate (n - 32) 0) 32 p, drop-replicate 32 (n - 32) 0, d)
    (sym (append_assoc x y (replicate (n - 32 - 32) 0)))

pub put_is : (h : HmacKey) {x y z : List ℕ} → length x ≡ 32 → length y ≡ 32 → x ≡ S.bytes h.inner → y ≡ S.bytes h.outer → z ≡ replicate 273 0
    → put_mid 32 32 (x ++ drop 32 z) y ≡ hmac_kept h
unfolding hmac_kept
put_is h {x} {y} {z} p q i o e = laid_in 273 x y z p q e ∙ rw (i, o)

-- the two hash values of a key, read from what was put
pub key_back : (k d i o : List ℕ) → d ≡ hmac_kept (key_of k) → i ≡ words_at d 0 → o ≡ words_at d 32 → ◌≡◌ {A = HmacKey} (record { inner = i; outer = o }) (key_of k)
unfolding hmac_kept filled key_of
key_back k d i o e p q =
    let a = S.bytes (S.compress S.H0 (inner_pad k)) in
    let b = S.bytes (S.compress S.H0 (outer_pad k)) in
    let z : List ℕ = replicate (273 - length (a ++ b)) 0 in
    let f : d ≡ a ++ (b ++ z) = e ∙ append_assoc a b z in
    let x : i ≡ S.compress S.H0 (inner_pad k) = p ∙ rw f (front_back S.H0 (inner_pad k) (b ++ z)) in
    let y : o ≡ S.compress S.H0 (outer_pad k) = q ∙ rw f (second_back S.H0 (inner_pad k) (b ++ z) ∙ front_back S.H0 (outer_pad k) z) in
    rw (x, y)

-- a list of eight is eight words
pub eight : (d : List ℕ) (at : ℕ) {a b c e f g h i : ℕ} → a ≡ u32at d at → b ≡ u32at d (at + 4) → c ≡ u32at d (at + 8) → e ≡ u32at d (at + 12)
    → f ≡ u32at d (at + 16) → g ≡ u32at d (at + 20) → h ≡ u32at d (at + 24) → i ≡ u32at d (at + 28)
    → a ∷ b ∷ c ∷ e ∷ f ∷ g ∷ h ∷ i ∷ [] ≡ words_at d at
unfolding words_at
eight d at p0 p1 p2 p3 p4 p5 p6 p7 = rw (p0, p1, p2, p3, p4, p5, p6, p7)
