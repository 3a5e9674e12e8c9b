-- One block's rounds, one by one: each round's word is the schedule's, and takes the place of the round's constant.
-- Assumes nothing.
use Rattle.std.proofs.Common.{◌≡◌, ℕ, zero, suc, ◌+◌, ◌-◌, ◌*◌, ◌<◌, ◌≤◌, List, [], ◌∷◌, length, get_or, set, sym, refl, ap, ◌∙◌, ⊎_elim, add-zero, add-suc, zero-add, arith, length-append, length-set, get_or-set_other, get_or-set_same}
use lib.ListN.{get_or-append}
use Rattle.laws.specs.Bytes.{u32at}
use Rattle.laws.proofs.Fill.{get_d_past}
use Rattle.laws.proofs.Splice.{below?}
use Rattle.sha256.specs.Sha256 as S
use Rattle.sha256.specs.Progress.{Before}

-- ---- the schedule

length-extended : (w : List ℕ) (n : ℕ) → length (S.extended w n) ≡ length w + n
unfolding S.extended
length-extended w zero = omega arith
length-extended w (suc n) = simp length-append (omega (arith, length-extended w n))

extended-add : (w : List ℕ) (m n : ℕ) → S.extended w (m + n) ≡ S.extended (S.extended w m) n
unfolding S.extended
extended-add w m zero = rw add-zero
extended-add w m (suc n) = rw (add-suc, extended-add w m n)

get_or-extended : (w : List ℕ) (n i : ℕ) → i < length w → get_or (S.extended w n) i 0 ≡ get_or w i 0
unfolding S.extended
get_or-extended w zero i h = refl
get_or-extended w (suc n) i h = get_or-append (S.extended w n) (S.next (S.extended w n) ∷ []) 0 i (omega (arith, length-extended w n)) ∙ get_or-extended w n i h

last_extended : (w : List ℕ) (n : ℕ) → get_or (S.extended w (suc n)) (length w + n) 0 ≡ S.next (S.extended w n)
unfolding S.extended
last_extended w n =
    let l = length-extended w n in
    let e : length w + n - length (S.extended w n) ≡ 0 = omega arith in
    get_d_past (S.extended w n) (S.next (S.extended w n) ∷ []) (length w + n) (omega arith) ∙ rw e

words-length : (b : List ℕ) → length (S.words b) ≡ 16
unfolding S.words
words-length b = refl

-- n words of the bytes b, from word i on
abbrev words_from : List ℕ → ℕ → ℕ → List ℕ
words_from b i zero = []
words_from b i (suc n) = u32at b (4 * i) ∷ words_from b (suc i) n

get_d_words : (b : List ℕ) (i n t : ℕ) → t < n → get_or (words_from b i n) t 0 ≡ u32at b (4 * (i + t))
get_d_words b i zero t h = absurd (omega arith)
get_d_words b i (suc n) zero h = rw (add-zero i)
get_d_words b i (suc n) (suc t) h =
    let e : suc i + t ≡ i + suc t = omega arith in
    get_d_words b (suc i) n t (omega arith) ∙ rw e

block-word : (b : List ℕ) (t : ℕ) → t < 16 → get_or (S.words b) t 0 ≡ u32at b (4 * t)
unfolding S.words
block-word b t h = get_d_words b 0 16 t h ∙ rw (zero-add t)

-- a word of the block
pub first_word : (b : List ℕ) (t w : ℕ) → t < 16 → w ≡ u32at b (4 * t) → w ≡ get_or (S.schedule b) t 0
unfolding S.schedule
first_word b t w h p =
    p ∙ sym (block-word b t h) ∙ sym (get_or-extended (S.words b) 48 t (omega (arith, words-length b)))

-- of the schedule's words, those before word t are the same when t words are made
made : (b : List ℕ) (t i : ℕ) → 16 ≤ t → t < 64 → i < t → get_or (S.schedule b) i 0 ≡ get_or (S.extended (S.words b) (t - 16)) i 0
unfolding S.schedule
made b t i l m h =
    let e : 48 ≡ t - 16 + (64 - t) = omega arith in
    ap (λ (n : ℕ). get_or (S.extended (S.words b) n) i 0) e
    ∙ ap (λ (v : List ℕ). get_or v i 0) (extended-add (S.words b) (t - 16) (64 - t))
    ∙ get_or-extended (S.extended (S.words b) (t - 16)) (64 - t) i (omega (arith, length-extended (S.words b) (t - 16), words-length b))

word_is_next : (b : List ℕ) (t : ℕ) → 16 ≤ t → t < 64 → get_or (S.schedule b) t 0 ≡ S.next (S.extended (S.words b) (t - 16))
unfolding S.schedule
word_is_next b t l m =
    let e : 48 ≡ suc (t - 16) + (63 - t) = omega arith in
    let k : t ≡ length (S.words b) + (t - 16) = omega (arith, words-length b) in
    ap (λ (n : ℕ). get_or (S.extended (S.words b) n) t 0) e
    ∙ ap (λ (v : List ℕ). get_or v t 0) (extended-add (S.words b) (suc (t - 16)) (63 - t))
    ∙ get_or-extended (S.extended (S.words b) (suc (t - 16))) (63 - t) t (omega (arith, length-extended (S.words b) (suc (t - 16)), words-length b))
    ∙ ap (λ (i : ℕ). get_or (S.extended (S.words b) (suc (t - 16))) i 0) k
    ∙ last_extended (S.words b) (t - 16)

-- a word that follows from the sixteen before it
pub next_word : (b x : List ℕ) (t w : ℕ) → 16 ≤ t → t < 64 → ((i : ℕ) → i < t → get_or x i 0 ≡ get_or (S.schedule b) i 0)
    → w ≡ S.add (S.add (S.add (S.σ1 (get_or x (t - 2) 0)) (get_or x (t - 7) 0)) (S.σ0 (get_or x (t - 15) 0))) (get_or x (t - 16) 0)
    → w ≡ get_or (S.schedule b) t 0
unfolding S.next
next_word b x t w l m f p =
    let n : length (S.extended (S.words b) (t - 16)) ≡ t = omega (arith, length-extended (S.words b) (t - 16), words-length b) in
    let back : (j : ℕ) → 0 < j → j ≤ 16 → get_or x (t - j) 0 ≡ get_or (S.extended (S.words b) (t - 16)) (length (S.extended (S.words b) (t - 16)) - j) 0 =
    (λ j z y. f (t - j) (omega arith) ∙ made b t (t - j) l m (omega arith) ∙ rw n) in
    let e : S.add (S.add (S.add (S.σ1 (get_or x (t - 2) 0)) (get_or x (t - 7) 0)) (S.σ0 (get_or x (t - 15) 0))) (get_or x (t - 16) 0) ≡ S.next (S.extended (S.words b) (t - 16)) =
    rw (back 2 (omega arith) (omega arith), back 7 (omega arith) (omega arith), back 15 (omega arith) (omega arith), back 16 (omega arith) (omega arith)) in
    p ∙ e ∙ sym (word_is_next b t l m)

-- ---- the rounds

-- nothing is done yet
pub at_first : (h b x : List ℕ) → x ≡ S.K → Before h b 0 h x
unfolding Before S.rounds S.K
at_first h b x e = (refl, (ap length e, (λ i z. omega arith, λ i z. ap (λ (v : List ℕ). get_or v i 0) e)))

-- one more round
pub one_round : (h b s x r : List ℕ) (t w : ℕ) → t < 64 → w ≡ get_or (S.schedule b) t 0 → r ≡ S.round s (get_or x t 0) w → Before h b t s x
    → Before h b (t + 1) r (set x t w)
unfolding Before S.rounds
one_round h b s x r t w m p q z =
    let e : t + 1 ≡ suc t = omega arith in
    let k : get_or x t 0 ≡ get_or S.K t 0 = z.1.1.1 t (omega arith) in
    let n : length x ≡ 64 = z.1.0 in (
      rw e (q ∙ rw (k, p, z.0)),
      (
        length-set x t w ∙ n,
        (
          λ i y. ⊎_elim (λ d. get_or-set_other x t i w 0 (λ c. omega arith) ∙ z.1.1.0 i d) (λ d. let c : i ≡ t = omega arith in rw c (get_or-set_same x t w 0 (omega arith) ∙ p)) (below? i t),
          λ i y. get_or-set_other x t i w 0 (λ c. omega arith) ∙ z.1.1.1 i (omega arith),
        ),
      ),
    )

-- all rounds are done
pub compress_is : (h b s x r : List ℕ) → Before h b 64 s x → r ≡ S.sums h s → r ≡ S.compress h b
unfolding Before S.compress
compress_is h b s x r z e = e ∙ ap (S.sums h) z.0

-- the words before round t, as next_word asks for them
pub words_before : (h b s x : List ℕ) (t : ℕ) → Before h b t s x → (i : ℕ) → i < t → get_or x i 0 ≡ get_or (S.schedule b) i 0
unfolding Before
words_before h b s x t z = z.1.1.0
