-- A block's check by its cases, and the blocks one after the other.
-- Assumes nothing.
use mathlib.Core.Path.{◌≡◌, refl, sym, ap, ◌∙◌}
use mathlib.Core.Bool.{Bool, true, false, cond, not, ◌||◌}
use mathlib.Core.Logic.{⊎_elim}
use mathlib.Core.List.{List, ◌++◌}
use Prim.Native.Nat.{ℕ, zero, suc, ◌+◌, ◌^◌, ◌≤◌, ◌<◌}
use native.Mathlib.Omega.{arith}
use native.Mathlib.Numerals.{add-one}
use lib.Dec.{ltb, eqb}
use lib.ListN.{length, take, drop, replicate}
use lib.Seq.{drop_at, length-take-le}
use borrow.Author.Tests.{lt-ltb, le-ltb, ne_eqb, eqb-true, eqb-false}
use Rattle.laws.specs.Lists.{part, splice}
use Rattle.laws.specs.Refusal.{first_refusal, unless, neb}
use Rattle.laws.proofs.Refusal.{by_test, unless_refused, unless_accepted}
use Rattle.laws.proofs.Splice.{below?}
use Rattle.rules.specs.Chain.{Held, held, key_fits, higher, sent_slot}
use Rattle.rules.specs.Mack as S
use Rattle.rules.specs.Received.{key_came, block_received, keys_received}
use Rattle.rules.specs.declared.Chain.{Chain}
use Rattle.rules.proofs.Walks.{key_width}
use Rattle.chain.proofs.Steps.{front_splice, splice_front}
use Rattle.chain.specs.Sound.{OnWay}
use Rattle.chain.specs.declared.Way.{Way}
use Rattle.mack_keys.specs.declared.Highest.{Highest}
use Rattle.mack_keys.specs.Keys.{Hands, checked, Keeps, KeepsOwn}

-- ---- one block

-- the key's bytes of those that were read
pub sent_key : (c : Chain) (m sent : List ℕ) (b : ℕ) → sent ≡ splice (replicate 32 0) 0 (S.block_key c m b) → take c.width sent ≡ S.block_key c m b
sent_key c m sent b e = ap (take c.width) e ∙ front_splice (replicate 32 0) (S.block_key c m b) c.width (key_width c m b)

module _ (c : Chain) (g prn first high b slot : ℕ) (m key : List ℕ) (s : slot ≡ sent_slot c g b prn) where
  abbrev h : Held
  h = held high (take c.width key)

  abbrev judged : S.Proved
  judged = S.block_proved c g prn first m h b

  pub refused_far : first + 1000000 < slot → Hands judged 13 high key key
  unfolding S.block_proved S.block_checks S.too_far
  refused_far l =
      let t : ltb (first + 1000000) (sent_slot c g b prn) ≡ true = rw s at (lt-ltb (first + 1000000) slot l) in
      record { code_is = rw t; slot_is = rw t; key_is = rw t (sym (splice_front key c.width)) }

  module _ (l : slot ≤ first + 1000000) where
    near : S.too_far first (sent_slot c g b prn) ≡ false
    unfolding S.too_far
    near = rw s at (le-ltb (first + 1000000) slot l)

    -- a spare bit is 1
    pub refused_spare : (x : ℕ) → x ≡ S.spare_bits c m b → (x ≡ 0 → ⊥) → Hands judged 12 high key key
    unfolding S.block_proved S.block_checks
    refused_spare x e n =
        let t : eqb (S.spare_bits c m b) 0 ≡ false = rw e at (ne_eqb x 0 n) in
        let u : not (key_fits c h (sent_slot c g b prn) (S.block_key c m b)) || neb (S.spare_bits c m b) 0 ≡ true = rw t (either (not (key_fits c h (sent_slot c g b prn) (S.block_key c m b)))) in
        record { code_is = rw (near, u); slot_is = rw (near, u); key_is = rw (near, u) (sym (splice_front key c.width)) }
      where
        either : (a : Bool) → a || true ≡ true
        either true = refl
        either false = refl

    -- without spare bits it is judged by its key
    module _ (sent : List ℕ) (k : sent ≡ splice (replicate 32 0) 0 (S.block_key c m b)) (x : ℕ) (e : x ≡ S.spare_bits c m b) (z : x ≡ 0) where
      by_fit : (f : Bool) → key_fits c h (sent_slot c g b prn) (S.block_key c m b) ≡ f → judged ≡ checked c h (sent_slot c g b prn) (S.block_key c m b)
      unfolding S.block_proved S.block_checks checked
      by_fit true t =
          let v : S.spare_bits c m b ≡ 0 = sym e ∙ z in
          rw (near, t, v)
      by_fit false t = rw (near, t)

      judged_is : judged ≡ checked c h slot (take c.width sent)
      judged_is = by_fit (key_fits c h (sent_slot c g b prn) (S.block_key c m b)) refl ∙ rw (s, sent_key c m sent b k)

      pub by_key : (code high' : ℕ) (out : List ℕ) → Hands (checked c h slot (take c.width sent)) code high' key out → Hands judged code high' key out
      by_key code high' out q = rw judged_is q

-- the higher key has the width
length-higher : (h : Held) (slot : ℕ) (k : List ℕ) (w : ℕ) → length h.key ≡ w → length k ≡ w → length (higher h slot k).key ≡ w
unfolding higher
length-higher h slot k w p q = by_test (λ (x : Held). length x.key ≡ w) (ltb h.slot slot) (λ _. q) (λ _. p)

-- ---- one key

module _ (c : Chain) (high slot : ℕ) (key sent : List ℕ) where
  abbrev before : Held
  before = held high (take c.width key)

  abbrev result : S.Proved
  result = checked c before slot (take c.width sent)

  pub unfit : key_fits c before slot (take c.width sent) ≡ false → Hands result 12 high key key
  unfolding checked
  unfit e = record { code_is = rw e; slot_is = rw e; key_is = rw e (sym (splice_front key c.width)) }

  module _ (top : ℕ) (out : List ℕ) (slot_is : top ≡ (higher before slot (take c.width sent)).slot) (key_is : out ≡ splice key 0 (higher before slot (take c.width sent)).key) where
    pub fit : key_fits c before slot (take c.width sent) ≡ true → (code : ℕ) → code ≡ 0 → (r : ℕ) → r ≡ top → Hands result code r key out
    unfolding checked
    fit e code p r q = record { code_is = rw e p; slot_is = rw e (q ∙ slot_is); key_is = rw e key_is }

    -- it is now the held one
    pub now_held : c.width ≤ 32 → length sent ≡ 32 → held top (take c.width out) ≡ higher before slot (take c.width sent)
    unfolding higher
    now_held w m = go (ltb high slot) refl
      where
        go : (b : Bool) → ltb high slot ≡ b → held top (take c.width out) ≡ cond b (held slot (take c.width sent)) before
        go true e =
            let s : top ≡ slot = rw e at slot_is in
            let o : out ≡ splice key 0 (take c.width sent) = rw e at key_is in
            let k : take c.width out ≡ take c.width sent = ap (take c.width) o ∙ front_splice key (take c.width sent) c.width (length-take-le c.width sent (omega arith)) in
            rw (s, k)
        go false e =
            let s : top ≡ high = rw e at slot_is in
            let o : out ≡ splice key 0 (take c.width key) = rw e at key_is in
            let k : out ≡ key = o ∙ splice_front key c.width in
            rw (s, k)

-- the higher slot
pub higher_slot : (h : Held) (slot top : ℕ) (k : List ℕ) → top ≡ (higher h slot k).slot → (h.slot < slot → top ≡ slot) × (slot ≤ h.slot → top ≡ h.slot)
unfolding higher
higher_slot h slot top k e = (λ l. e ∙ rw (lt-ltb h.slot slot l), λ l. e ∙ rw (le-ltb h.slot slot l))

-- which key was held before, where it is the higher one or not
pub hold_old : (c : Chain) (high slot : ℕ) (key sent : List ℕ) → slot ≤ high
    → (high ≡ (higher (held high (take c.width key)) slot (take c.width sent)).slot) × (key ≡ splice key 0 (higher (held high (take c.width key)) slot (take c.width sent)).key)
unfolding higher
hold_old c high slot key sent l =
    let t = le-ltb high slot l in
    (rw t, rw t (sym (splice_front key c.width)))

pub hold_new : (c : Chain) (high slot : ℕ) (key sent out : List ℕ) → high < slot → out ≡ splice key 0 (part sent 0 c.width)
    → (slot ≡ (higher (held high (take c.width key)) slot (take c.width sent)).slot) × (out ≡ splice key 0 (higher (held high (take c.width key)) slot (take c.width sent)).key)
unfolding higher part
hold_new c high slot key sent out l e =
    let t = lt-ltb high slot l in
    (rw t, rw t e)

-- ---- a block by its key: it came, or it is lost

module _ (c : Chain) (g prn first marks slot b : ℕ) (m key : List ℕ) where
  abbrev received : S.Proved
  received = block_received c g prn first m marks (held slot (take c.width key)) b

  pub key_came_law : key_came c marks b ≡ true → received ≡ S.block_proved c g prn first m (held slot (take c.width key)) b
  unfolding block_received
  key_came_law e = rw e

  module _ (lost : key_came c marks b ≡ false) (x : ℕ) (e : x ≡ S.spare_bits c m b) where
    -- a spare bit is 1
    pub lost_spare : (x ≡ 0 → ⊥) → Hands received 12 slot key key
    unfolding block_received
    lost_spare n =
        let t : eqb (S.spare_bits c m b) 0 ≡ false = rw e at (ne_eqb x 0 n) in
        record { code_is = rw (lost, t); slot_is = rw lost; key_is = rw lost (sym (splice_front key c.width)) }

    pub lost_key : x ≡ 0 → Hands received 0 slot key key
    unfolding block_received
    lost_key z =
        let v : S.spare_bits c m b ≡ 0 = sym e ∙ z in
        record { code_is = rw (lost, v); slot_is = rw lost; key_is = rw lost (sym (splice_front key c.width)) }

-- a key does not both come and get lost
pub came_lost : (b : Bool) → b ≡ true → b ≡ false → ⊥
came_lost b p q =
    let z : ◌≡◌ {A = ℕ} 0 1 = cc in
    omega (arith, z)

-- ---- the key that is kept on the way

-- the key of slot `via` stays kept, or is kept where the way between slot `high` and slot `slot` passes it
module _ (via high slot top stop old near : ℕ) (up : high < slot → top ≡ slot) (down : slot ≤ high → top ≡ high)
    (passes_up : high ≤ via → via ≤ slot → stop ≡ via) (passes-down : slot ≤ via → via ≤ high → stop ≡ via)
    (new : stop ≡ via → near ≡ via) (same : (stop ≡ via → ⊥) → near ≡ old) where
  passes : high ≤ via → via ≤ top → stop ≡ via
  passes l m =
      ⊎_elim
      (λ (a : high < slot). passes_up l (omega (arith, up a)))
      (λ a.
      let e = down a in
      passes-down (omega arith) (omega arith))
      (below? high slot)

  pub keeps_on : (low : ℕ) → (low ≤ via → via ≤ high → old ≡ via) → low ≤ via → via ≤ top → near ≡ via
  keeps_on low k a b = pick (eqb stop via) refl
    where
      pick : (t : Bool) → eqb stop via ≡ t → near ≡ via
      pick true e = new (eqb-true stop via e)
      pick false e =
          let n = eqb-false stop via e in
          same n ∙ ⊎_elim (λ (l : high < via). absurd (n (passes (omega arith) b))) (λ l. k a l) (below? high via)

  -- and from the sent key's own slot on
  pub keeps_own : slot ≤ via → via ≤ top → near ≡ via
  keeps_own a b =
      new
      (⊎_elim
      (λ (l : high < slot). passes_up (omega arith) (omega (arith, up l)))
      (λ l.
      let e = down l in
      passes-down a (omega arith))
      (below? high slot))

-- block 1's own key stays kept
pub own_on : (c : Chain) (g prn marks b via high high' : ℕ) (w w' : Way) → (1 ≤ b → KeepsOwn (sent_slot c g 1 prn) via high w)
    → ((low : ℕ) → Keeps low via high w → Keeps low via high' w')
    → (b + 1 ≡ 1 → key_came c marks (b + 1) ≡ true → KeepsOwn (sent_slot c g (b + 1) prn) via high' w') → ((b + 1 ≡ 1 → ⊥) → w'.low ≡ w.low)
    → key_came c marks 1 ≡ true → KeepsOwn (sent_slot c g 1 prn) via high' w'
own_on c g prn marks zero via high high' w w' old on new same came = new refl came
own_on c g prn marks (suc b) via high high' w w' old on new same came =
    let o = old (omega arith) in
    record { own_is = same (λ e. absurd (omega (arith, e))) ∙ o.own_is; passed = on (sent_slot c g 1 prn) o.passed }

-- ---- the blocks in order

-- a key replaced by another of the same width
splice_again : (d x y : List ℕ) → length x ≡ length y → splice (splice d 0 x) 0 y ≡ splice d 0 y
unfolding splice
splice_again d x y e = ap (λ (l : List ℕ). y ++ l) (drop_at x (drop (length x) d) (length y) e ∙ ap (λ (n : ℕ). drop n d) e)

chosen : (n : ℕ) (w : ℕ) (x y : Held) → length x.key ≡ w → length y.key ≡ w → length (unless n x y).key ≡ w
chosen zero w x y p q = p
chosen (suc n) w x y p q = q

chosen_proved : (n : ℕ) (w : ℕ) (x y : S.Proved) → length x.held.key ≡ w → length y.held.key ≡ w → length (unless n x y).held.key ≡ w
chosen_proved zero w x y p q = p
chosen_proved (suc n) w x y p q = q

-- every key proved has the width
pub length-block : (c : Chain) (g prn first : ℕ) (m : List ℕ) (h : Held) (b : ℕ) → length h.key ≡ c.width → length (S.block_proved c g prn first m h b).held.key ≡ c.width
unfolding S.block_proved
length-block c g prn first m h b e =
    chosen (first_refusal (S.block_checks c g prn first m h b)) c.width (higher h (sent_slot c g b prn) (S.block_key c m b)) h
    (length-higher h (sent_slot c g b prn) (S.block_key c m b) c.width e (key_width c m b)) e

-- a block whose key may be lost: then what is held stays
length-received : (c : Chain) (g prn first : ℕ) (m : List ℕ) (marks : ℕ) (h : Held) (b : ℕ) → length h.key ≡ c.width → length (block_received c g prn first m marks h b).held.key ≡ c.width
unfolding block_received
length-received c g prn first m marks h b e = by_test (λ (x : S.Proved). length x.held.key ≡ c.width) (key_came c marks b) (λ _. length-block c g prn first m h b e) (λ _. e)

pub length_proved : (c : Chain) (g prn : ℕ) (m : List ℕ) (marks : ℕ) (h : Held) (b : ℕ) → length h.key ≡ c.width → length (keys_received c g prn m marks h b).held.key ≡ c.width
unfolding keys_received
length_proved c g prn m marks h zero e = e
length_proved c g prn m marks h (suc b) e =
    let p = keys_received c g prn m marks h b in
    let i = length_proved c g prn m marks h b e in
    chosen_proved p.code c.width (block_received c g prn h.slot m marks p.held (suc b)) p (length-received c g prn h.slot m marks p.held (suc b) i) i

-- no block yet
pub no_block : (c : Chain) (g prn marks slot : ℕ) (m key : List ℕ) → Hands (keys_received c g prn m marks (held slot (take c.width key)) 0) 0 slot key key
unfolding keys_received
no_block c g prn marks slot m key = record { code_is = refl; slot_is = refl; key_is = sym (splice_front key c.width) }

-- one block more
pub one_more : (c : Chain) (g prn marks b slot rc rs : ℕ) (m key₀ key out : List ℕ) (h : Held) → length h.key ≡ c.width
    → Hands (keys_received c g prn m marks h b) 0 slot key₀ key
    → Hands (block_received c g prn h.slot m marks (held slot (take c.width key)) (b + 1)) rc rs key out
    → Hands (keys_received c g prn m marks h (b + 1)) rc rs key₀ out
unfolding keys_received
one_more c g prn marks b slot rc rs m key₀ key out h e p q =
    let old = keys_received c g prn m marks h b in
    let n = length_proved c g prn m marks h b e in
    let k : take c.width key ≡ old.held.key = ap (take c.width) p.key_is ∙ front_splice key₀ old.held.key c.width n in
    let new = keys_received c g prn m marks h (suc b) in
    let u : block_received c g prn h.slot m marks (held slot (take c.width key)) (b + 1) ≡ new =
    rw (p.slot_is, k, add-one b) (sym (unless_accepted old.code (block_received c g prn h.slot m marks old.held (suc b)) old (sym p.code_is))) in
    let r : Hands new rc rs key out = rw u at q in
    rw (add-one b)
    (record {
      code_is = r.code_is;
      slot_is = r.slot_is;
      key_is =
          r.key_is
          ∙ ap (λ (l : List ℕ). splice l 0 new.held.key) p.key_is
          ∙ splice_again key₀ old.held.key new.held.key (n ∙ sym (length_proved c g prn m marks h (suc b) e));
    })

-- after a block that is refused nothing is looked at
refused_on : (c : Chain) (g prn marks b n : ℕ) (m : List ℕ) (h : Held) → b ≤ n → ((keys_received c g prn m marks h b).code ≡ 0 → ⊥)
    → keys_received c g prn m marks h n ≡ keys_received c g prn m marks h b
unfolding keys_received
refused_on c g prn marks b zero m h l f =
    let e : b ≡ 0 = omega arith in
    rw e
refused_on c g prn marks b (suc n) m h l f =
    ⊎_elim
    (λ (a : b < suc n).
    let p = keys_received c g prn m marks h n in
    let e : p ≡ keys_received c g prn m marks h b = refused_on c g prn marks b n m h (omega arith) f in
    unless_refused p.code (block_received c g prn h.slot m marks p.held (suc n)) p (λ z. f (ap (λ (x : S.Proved). x.code) (sym e) ∙ z)) ∙ e)
    (λ a.
    let e : b ≡ suc n = omega arith in
    rw e)
    (below? b (suc n))

pub all_refused : (c : Chain) (g prn marks b n code slot : ℕ) (m key₀ key : List ℕ) (h : Held) → b ≤ n → 1 ≤ code
    → Hands (keys_received c g prn m marks h b) code slot key₀ key → Hands (keys_received c g prn m marks h n) code slot key₀ key
all_refused c g prn marks b n code slot m key₀ key h l f p =
    rw (refused_on c g prn marks b n m h l (λ z. omega (arith, z, p.code_is))) p

-- all blocks
pub all_blocks : (c : Chain) (g prn marks b n code slot : ℕ) (m key₀ key : List ℕ) (h : Held) → b ≤ n → n ≤ b → Hands (keys_received c g prn m marks h b) code slot key₀ key
    → Hands (keys_received c g prn m marks h n) code slot key₀ key
all_blocks c g prn marks b n code slot m key₀ key h l k p =
    let e : n ≡ b = omega arith in
    rw e p

-- what is so after the first blocks, none of which was refused
pub record Blocks (c : Chain) (g prn marks first via : ℕ) (m key₀ key : List ℕ) (done : ℕ) (top : Highest) (used : ℕ) : Type 0 where
  pub hands : Hands (keys_received c g prn m marks (held first (take c.width key₀)) done) 0 top.slot key₀ key
  pub slot_high : top.slot < 2 ^ 34
  pub on_way : OnWay c (held top.slot (take c.width key)) top.way
  pub keeps : Keeps first via top.slot top.way
  pub own : 1 ≤ done → key_came c marks 1 ≡ true → KeepsOwn (sent_slot c g 1 prn) via top.slot top.way
  pub used_is : used ≡ S.block_at c (done + 1)
