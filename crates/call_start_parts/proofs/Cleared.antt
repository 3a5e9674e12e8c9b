-- What a start writes: regions of zeros, and the settings. Assumes nothing.
use mathlib.Core.Path.{◌≡◌, refl, sym, ap, ◌∙◌}
use mathlib.Core.List.{List, [], ◌∷◌, ◌++◌, append_assoc}
use mathlib.Core.Bool.{Bool, ◌&&◌}
use Prim.Native.Nat.{ℕ, zero, suc, ◌+◌, ◌-◌, ◌≤◌}
use native.Mathlib.Omega.{arith}
use lib.ListN.{length, get_or, take, replicate, set, length-append}
use lib.Seq.{take-suc, take_all}
use Rattle.std.specs.List.{list_all}
use Rattle.std.proofs.lemmas.List.Recursion.{and_push}
use Rattle.laws.specs.Lists.{splice}
use Rattle.laws.proofs.Splice.{length_splice, splice_two, splice-append, splice_whole, splice_one}
use Rattle.rules.specs.Calls.{mark_valid, marks_valid}
use Rattle.rules.specs.PublicKeys.{key_length, with_key}
use Rattle.rules.specs.State.{config_length, pubkeys_length, stopped_at}
use Rattle.call_start_parts.specs.Blank.{settings}

-- a whole region is cleared
pub cleared : (d e : List ℕ) (n : ℕ) → length d ≡ n → e ≡ replicate (length d) 0 → e ≡ replicate n 0
cleared d e n h p = p ∙ ap (λ (k : ℕ). replicate k 0) h

-- ---- marks

-- the first n marks, one by one
marks_first : (m : List ℕ) (n : ℕ) → n ≤ length m → list_all mark_valid (take n m) ≡ marks_valid m n
unfolding marks_valid
marks_first m zero l = refl
marks_first m (suc n) l =
    ap (list_all mark_valid) (take-suc m n 0 (omega arith))
    ∙ and_push (list_all mark_valid) mark_valid refl (λ _ _. refl) (take n m) (get_or m n 0)
    ∙ ap (λ (b : Bool). b && mark_valid (get_or m n 0)) (marks_first m n (omega arith))

pub marks_all : (m : List ℕ) (n : ℕ) → length m ≡ n → list_all mark_valid m ≡ marks_valid m n
marks_all m n h = ap (list_all mark_valid) (sym (take_all n m (omega arith))) ∙ marks_first m n (omega arith)

-- ---- settings

-- NS and MACLT, then the marks, then the root, then 0
pub config-set : (d e f : List ℕ) (ns maclt : ℕ) (marks root : List ℕ) → length d ≡ config_length → length marks ≡ 28 → length root ≡ 32
    → e ≡ splice (set (set d 0 ns) 1 maclt) 2 marks
    → f ≡ splice e 30 root
    → set f stopped_at 0 ≡ settings ns maclt marks root
config-set d e f ns maclt marks root ld lm lr p q =
    let a : List ℕ = ns ∷ maclt ∷ [] in
    let b : List ℕ = a ++ marks in
    let lb : length b ≡ 30 = length-append a marks ∙ omega arith in
    let lc : length (b ++ root) ≡ 62 = length-append b root ∙ omega arith in
    let eb : e ≡ splice d 0 b = p ∙ ap (λ (l : List ℕ). splice l 2 marks) (splice_two d 0 ns maclt (omega arith)) ∙ splice-append d 0 a marks (omega arith) in
    let zb : 0 + length b ≡ 30 = omega arith in
    let zc : 0 + length (b ++ root) ≡ 62 = omega arith in
    let ec : f ≡ splice d 0 (b ++ root) =
    q ∙ ap (λ (l : List ℕ). splice l 30 root) eb ∙ ap (λ (k : ℕ). splice (splice d 0 b) k root) (sym zb) ∙ splice-append d 0 b root (omega arith) in
    let lf : length f ≡ config_length = ap length ec ∙ length_splice d 0 (b ++ root) (omega arith) ∙ ld in
    splice_one f 62 0 (omega arith)
    ∙ ap (λ (l : List ℕ). splice l 62 (0 ∷ [])) ec
    ∙ ap (λ (k : ℕ). splice (splice d 0 (b ++ root)) k (0 ∷ [])) (sym zc)
    ∙ splice-append d 0 (b ++ root) (0 ∷ []) (omega arith)
    ∙ splice_whole d ((b ++ root) ++ (0 ∷ [])) (length-append (b ++ root) (0 ∷ []) ∙ omega arith)
    ∙ append_assoc b root (0 ∷ [])

-- ---- the key

pub key-held : (f e p : List ℕ) (id kind n : ℕ) → f ≡ replicate pubkeys_length 0 → n ≡ key_length kind → e ≡ with_key f id kind (take (n - 0) p)
    → e ≡ with_key (replicate pubkeys_length 0) id kind (take (key_length kind) p)
key-held f e p id kind n ef en ee =
    let z : n - 0 ≡ key_length kind = omega (arith, en) in
    ee ∙ ap (λ (l : List ℕ). with_key l id kind (take (n - 0) p)) ef ∙ ap (λ (k : ℕ). with_key (replicate pubkeys_length 0) id kind (take k p)) z
