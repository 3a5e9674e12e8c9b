-- The key of a block's tags without delay.
-- Assumes nothing.
use mathlib.Core.Path.{◌≡◌, refl, ap, ◌∙◌}
use mathlib.Core.Bool.{Bool, cond, ◌&&◌}
use mathlib.Core.List.{List}
use Prim.Native.Nat.{ℕ, zero, suc, ◌+◌, ◌-◌, ◌*◌, ◌/◌, ◌%◌, ◌≤◌, ◌<◌}
use native.Mathlib.Omega.{arith}
use native.Mathlib.Nat.{div-add-mod, mod-lt, div-le_self, le_trans, mul-add-div, div-eq_of_lt, zero-div}
use lib.Dec.{eqb}
use borrow.Author.Tests.{eq-eqb}
use Rattle.mac.specs.Kept.{kept_of}
use Rattle.rules.specs.Chain.{Held, key_of_slot, key_slot}
use Rattle.rules.specs.Mack.{macseq_of}
use Rattle.rules.specs.Tags.{Section, tag_key, tag_matches, mac_bits, first_message, tag_message, own_tag, macseq_message, macseq_fits}
use Rattle.rules.specs.Times.{delay_of, key_seconds, tag_slot}
use Rattle.rules.specs.declared.Chain.{Chain}
use Rattle.rules.specs.declared.Tag.{Tag}
use Rattle.section_outcomes.specs.Outcomes.{block_key}

-- ---- blocks

pub block_small : (j f : ℕ) → j < 14 → j / f ≤ 13
block_small j f h = le_trans (div-le_self j f) (omega arith)

-- the first field's block
pub first_block : (j f : ℕ) → j ≡ 0 → (j - 1) / f ≡ j / f
first_block j f e = rw e

-- a field that does not begin a block is in the block of the field before it
pub same_block : (j f : ℕ) → 1 ≤ f → (j % f ≡ 0 → ⊥) → (j - 1) / f ≡ j / f
same_block j f p q =
    let a = div-add-mod j f in
    let b = mod-lt j p in
    let r : 1 ≤ j % f = positive (j % f) q in
    let e : j - 1 ≡ f * (j / f) + (j % f - 1) = less_one j (f * (j / f)) (j % f) a r in
    let z : (j % f - 1) / f ≡ 0 = div-eq_of_lt (omega arith) in
    ap (λ (i : ℕ). i / f) e ∙ mul-add-div p (j / f) (j % f - 1) ∙ rw z (omega arith)
  where
    positive : (n : ℕ) → (n ≡ 0 → ⊥) → 1 ≤ n
    positive zero h = absurd (h refl)
    positive (suc n) h = omega arith

    less_one : (i x y : ℕ) → x + y ≡ i → 1 ≤ y → i - 1 ≡ x + (y - 1)
    less_one i x y h k = omega arith

-- the block of the field before the next one
pub next-block : (j : ℕ) → j ≡ j + 1 - 1
next-block j = omega arith

-- ---- tags without delay

no_delay : delay_of 0 ≡ 0
unfolding delay_of
no_delay = refl

prompt_slot : (c : Chain) (g b adkd : ℕ) → delay_of adkd ≡ 0 → 1 ≤ b → key_slot c g (b - 1 + 1) 0 ≡ key_slot c g b adkd
unfolding key_slot tag_slot key_seconds
prompt_slot c g b adkd e h =
    let q : b - 1 + 1 ≡ b = omega arith in
    rw (q, e, no_delay)

-- a tag without delay under its block's key
pub prompt_matches : (c : Chain) (h : Held) (key : List ℕ) (first : Bool) (t : Tag) (set : List ℕ) (r : Bool) → delay_of t.adkd ≡ 0
    → key ≡ block_key c h t.time (t.block - 1) → 1 ≤ t.block
    → ((k : List ℕ) → key ≡ kept_of c.mf k → r ≡ eqb (mac_bits c.mf c.ms k (cond first (first_message t set) (tag_message t set))) t.bits)
    → r ≡ (eqb (delay_of t.adkd) 0 && tag_matches c h first t set)
unfolding block_key tag_matches tag_key
prompt_matches c h key first t set r e k b m =
    m (key_of_slot c h (key_slot c t.time (t.block - 1 + 1) 0)) k
    ∙ rw (eq-eqb (delay_of t.adkd) 0 e, prompt_slot c t.time t.block t.adkd e b)

-- the block of a field's tag
pub tag_block : (c : Chain) (x : Section) (j : ℕ) (t : Tag) → t ≡ own_tag c x j → 1 ≤ t.block
unfolding own_tag
tag_block c x j t e = rw e (omega arith)

pub tag_key_lem : (c : Chain) (h : Held) (x : Section) (j : ℕ) (t : Tag) (key : List ℕ) → t ≡ own_tag c x j → key ≡ block_key c h x.time (j / c.fields)
    → key ≡ block_key c h t.time (t.block - 1)
unfolding own_tag
tag_key_lem c h x j t key e k =
    let q : j / c.fields + 1 - 1 ≡ j / c.fields = omega arith in
    k ∙ rw (e, q)

-- ---- MACSEQ

-- "MACSEQ uses the key of block 1's tags."
pub macseq_is : (config : List ℕ) (c : Chain) (h : Held) (x : Section) (key : List ℕ) (r : Bool) → key ≡ block_key c h x.time (0 / c.fields)
    → ((k : List ℕ) → key ≡ kept_of c.mf k → r ≡ eqb (mac_bits c.mf 12 k (macseq_message config c x (c.nmack * c.fields))) (macseq_of c x.mack))
    → r ≡ macseq_fits config c h x
unfolding block_key macseq_fits
macseq_is config c h x key r k m =
    let q : 0 / c.fields + 1 ≡ 1 = rw (zero-div c.fields) in
    m (key_of_slot c h (key_slot c x.time (0 / c.fields + 1) 0)) k ∙ rw q
