-- A step in a framed block is a step of the chain, a block is framed by its writes, and steps one after the other are a walk.
-- Assumes nothing.
use mathlib.Core.Path.{◌≡◌, refl, sym, ap, ◌∙◌}
use mathlib.Core.Bool.{Bool, true, false, cond}
use mathlib.Core.Logic.{⊎_elim}
use mathlib.Core.List.{List, ◌∷◌, ◌++◌, append_assoc, append-nil}
use Prim.Native.Nat.{ℕ, zero, suc, ◌+◌, ◌-◌, ◌*◌, ◌/◌, ◌%◌, ◌^◌, ◌≤◌, ◌<◌}
use native.Mathlib.Omega.{arith}
use lib.ListN.{length, take, drop, set, replicate, length-append, length-replicate, replicate-append-replicate, take-append-drop, drop_of_length-le}
use lib.Seq.{take_at, drop_at, drop-drop, set_at, length-take-le, take_all}
use lib.Dec.{ltb}
use borrow.Author.Tests.{lt-ltb, le-ltb, ltb-true, ltb-false}
use Rattle.laws.specs.Lists.{part, splice, same}
use Rattle.laws.specs.Bytes.{be4, be8}
use Rattle.laws.proofs.Numbers.{length-be4}
use Rattle.laws.proofs.Splice.{splice-start, splice_end, length_splice, below?}
use Rattle.times.proofs.Times.{be4_low}
use Rattle.sha256.specs.Sha256 as H
use Rattle.rules.specs.Chain as S
use Rattle.rules.specs.declared.Chain.{Chain}
use Rattle.laws.proofs.Same.{same_true, same_equal, same_false, same_differ}
use Rattle.rules.proofs.Walks.{walk-add}
use Rattle.chain.specs.Sound.{Hashes, Framed, Met, OnWay, laid_out}
use Rattle.chain.specs.declared.Way.{Way}
use Rattle.chain.proofs.Hashes.{length_hash, length-key, key_short}

-- ---- lengths

pub length-step : (c : Chain) (m : ℕ) (k : List ℕ) → c.width ≤ S.hash_bytes c.hf → length (S.key_step c m k) ≡ c.width
unfolding S.key_step
length-step c m k h =
    let x = k ++ (be4 (S.slot_time c m) ++ c.alpha) in
    length-take-le c.width (S.chain_hash c.hf x) (omega (arith, length_hash c.hf x))

pub length-walk : (c : Chain) (n m : ℕ) (k : List ℕ) → c.width ≤ S.hash_bytes c.hf → length k ≡ c.width → length (S.walk c n m k) ≡ c.width
unfolding S.walk
length-walk c zero m k h e = e
length-walk c (suc n) m k h e = length-walk c n m (S.key_step c (m + n) k) h (length-step c (m + n) k h)

-- ---- walks

-- no step
pub walk_none : (c : Chain) (n m : ℕ) (k : List ℕ) → n ≡ 0 → S.walk c n m k ≡ k
unfolding S.walk
walk_none c n m k e = rw e

-- What holds before each turn of a walk's loop, for every hash: from the key in the block, of this slot, the steps that are left give what all
-- steps give from the first key.
pub record Walking (c : Chain) (padding : List ℕ) (n m : ℕ) (key : List ℕ) (slot : ℕ) (b : List ℕ) : Type 0 where
  pub low : m ≤ slot
  pub leads : S.walk c (slot - m) m (take c.width b) ≡ S.walk c n m (take c.width key)
  pub framed : Framed c padding b

pub begins : (c : Chain) (padding : List ℕ) (n m : ℕ) (key b : List ℕ) → (take c.width b ≡ take c.width key) × Framed c padding b
    → Walking c padding n m key (m + n) b
begins c padding n m key b f =
    let e : m + n - m ≡ n = omega arith in
    record { low = omega arith; leads = ap (λ (i : ℕ). S.walk c i m (take c.width b)) e ∙ ap (S.walk c n m) f.0; framed = f.1 }

-- the first step of those that are left
walk_one : (c : Chain) (i m : ℕ) (k l : List ℕ) → 0 < i → l ≡ S.key_step c (m + (i - 1)) k → S.walk c (i - 1) m l ≡ S.walk c i m k
unfolding S.walk
walk_one c zero m k l h e = absurd (omega arith)
walk_one c (suc j) m k l h e =
    let f : suc j - 1 ≡ j = omega arith in
    rw f (ap (S.walk c j m) (e ∙ rw f))

pub goes_on : (c : Chain) (padding : List ℕ) (n m : ℕ) (key b b2 : List ℕ) (slot : ℕ) → m < slot → Walking c padding n m key slot b
    → (take c.width b2 ≡ S.key_step c (slot - 1) (take c.width b)) × Framed c padding b2 → Walking c padding n m key (slot - 1) b2
goes_on c padding n m key b b2 slot h w s =
    let e : slot - 1 ≡ m + (slot - m - 1) = omega arith in
    let f : slot - 1 - m ≡ slot - m - 1 = omega arith in
    record {
      low = omega arith;
      leads = ap (λ (i : ℕ). S.walk c i m (take c.width b2)) f
          ∙ walk_one c (slot - m) m _ _ (omega arith) (s.0 ∙ ap (λ (j : ℕ). S.key_step c j (take c.width b)) e)
          ∙ w.leads;
      framed = s.1;
    }

-- no step is left, and the key is copied out of the block
pub ends : (c : Chain) (padding : List ℕ) (n m : ℕ) (key b out : List ℕ) (slot : ℕ) → slot ≤ m → Walking c padding n m key slot b
    → out ≡ splice key 0 (part b 0 c.width) → out ≡ splice key 0 (S.walk c n m (take c.width key))
unfolding part
ends c padding n m key b out slot h w p =
    p ∙ ap (splice key 0) (sym (walk_none c (slot - m) m (take c.width b) (omega arith)) ∙ w.leads)

-- a walk goes on from the key of a slot on its way
pub walk_on : (c : Chain) (h : S.Held) (at m : ℕ) → m ≤ at → at ≤ h.slot → S.key_of_slot c (S.held at (S.key_of_slot c h at)) m ≡ S.key_of_slot c h m
unfolding S.key_of_slot
walk_on c h at m p q =
    let e : h.slot - at + (at - m) ≡ h.slot - m = omega arith in
    let f : m + (at - m) ≡ at = omega arith in
    sym (rw (← e) (walk-add c (h.slot - at) (at - m) m h.key ∙ ap (λ (i : ℕ). S.walk c (at - m) m (S.walk c (h.slot - at) i h.key)) f))

-- the held key is met at its own slot
pub met_here : (c : Chain) (slot : ℕ) (key : List ℕ) → Met c (S.held slot (take c.width key)) slot key
unfolding S.key_of_slot
met_here c slot key =
    let n : slot - slot ≡ 0 = omega arith in
    record { not_above = omega arith; key_is = sym (walk_none c (slot - slot) slot (take c.width key) n) }

-- a key that was met below the held slot is met from a higher key that hashes down to the held one
pub met_from_above : (c : Chain) (h : S.Held) (slot at : ℕ) (k key : List ℕ) → h.slot < slot → S.key_fits c h slot k ≡ true → Met c h at key → Met c (S.held slot k) at key
unfolding S.key_fits S.key_of_slot
met_from_above c h slot at k key l f m =
    let down : S.walk c (slot - h.slot) h.slot k ≡ h.key = same_true (S.walk c (slot - h.slot) h.slot k) h.key (rw (lt-ltb h.slot slot l) at f) in
    record {
      not_above = omega (arith, m.not_above);
      key_is = m.key_is ∙ ap (λ (x : List ℕ). S.walk c (h.slot - at) at x) (sym down) ∙ walk_on c (S.held slot k) h.slot at m.not_above (omega arith);
    }

-- the same of both keys of a way
pub way_from_above : (c : Chain) (h : S.Held) (slot : ℕ) (k : List ℕ) (w : Way) → h.slot < slot → S.key_fits c h slot k ≡ true → OnWay c h w → OnWay c (S.held slot k) w
way_from_above c h slot k w l f o =
    record { near_is = met_from_above c h slot w.near k w.met l f o.near_is; low_is = met_from_above c h slot w.low k w.own l f o.low_is }

-- a key that fits at or below the held slot is met there
pub met_fits : (c : Chain) (h : S.Held) (slot : ℕ) (key : List ℕ) → slot ≤ h.slot → S.key_fits c h slot (take c.width key) ≡ true → Met c h slot key
unfolding S.key_fits
met_fits c h slot key l f =
    record { not_above = l; key_is = same_true (take c.width key) (S.key_of_slot c h slot) (rw (le-ltb h.slot slot l) at f) }

-- from a key that was met the way goes on: at or above slot m, or at the held slot
pub met_on : (c : Chain) (h : S.Held) (at m : ℕ) (key : List ℕ) → Met c h at key → (at < m → at ≡ h.slot) → S.key_of_slot c (S.held at (take c.width key)) m ≡ S.key_of_slot c h m
unfolding S.key_of_slot
met_on c h at m key t f =
    ⊎_elim
    (λ a.
    let e = f a in
    let x : at - m ≡ 0 = omega arith in
    let y : h.slot - at ≡ 0 = omega arith in
    let z : h.slot - m ≡ 0 = omega arith in
    walk_none c (at - m) m (take c.width key) x
    ∙ t.key_is
    ∙ walk_none c (h.slot - at) at h.key y
    ∙ sym (walk_none c (h.slot - m) m h.key z))
    (λ a. ap (λ (k : List ℕ). S.walk c (at - m) m k) t.key_is ∙ walk_on c h at m a t.not_above)
    (below? at m)

-- ---- a step in a framed block: the time, then the hash value's first bytes

-- One proof for every hash: `block` hashes a message that stands in 64 bytes with this padding.
module _ (c : Chain) (w : c.width ≤ S.hash_bytes c.hf) (a : length c.alpha ≡ 6) (padding : List ℕ) (block : List ℕ → List ℕ) (hashes : Hashes c padding block) where
  -- what is hashed for a key and a time
  abbrev message : List ℕ → ℕ → List ℕ
  message k t = k ++ (be4 t ++ c.alpha)

  length_message : (k : List ℕ) (t : ℕ) → length k ≡ c.width → length (message k t) ≡ c.width + 10
  length_message k t e = simp (length-append, length-be4) (omega arith)

  -- with the time set it is the padded message
  timed : (b : List ℕ) (t : ℕ) → Framed c padding b → splice b c.width (be4 t) ≡ message (take c.width b) t ++ padding
  unfolding splice
  timed b t f = rw (length-be4 t, drop-drop 4 c.width b, f) (simp append_assoc)

  pub step_is : (m t : ℕ) (b b1 d b2 : List ℕ) → length b ≡ 64 → Framed c padding b → t ≡ S.slot_time c m % 2 ^ 32 → b1 ≡ splice b c.width (be4 t)
      → d ≡ block b1 → b2 ≡ splice b1 0 (part d 0 c.width)
      → (take c.width b2 ≡ S.key_step c m (take c.width b)) × Framed c padding b2
  unfolding S.key_step splice part
  step_is m t b b1 d b2 e f p q u v =
      let k = take c.width b in
      let s = key_short c w in
      let n : length k ≡ c.width = length-take-le c.width b (omega arith) in
      let x = S.slot_time c m in
      let t4 : be4 t ≡ be4 x = ap be4 p ∙ be4_low x in
      let q2 : b1 ≡ message k x ++ padding = q ∙ ap (splice b c.width) t4 ∙ timed b x f in
      let o : length (message k x) ≡ c.width + 10 = length_message k x n in
      let hash : take c.width d ≡ take c.width (S.chain_hash c.hf (message k x)) = ap (take c.width) (u ∙ ap block q2) ∙ hashes (message k x) o in
      let l : length (take c.width d) ≡ c.width =
      ap length hash ∙ length-take-le c.width (S.chain_hash c.hf (message k x)) (omega (arith, length_hash c.hf (message k x))) in
      let rest : drop c.width b1 ≡ be4 t ++ drop 4 (drop c.width b) =
      rw (q, length-be4 t) (drop_at k (be4 t ++ drop 4 (drop c.width b)) c.width n) in
      let v2 : b2 ≡ take c.width d ++ drop c.width b1 = v ∙ ap (λ (j : ℕ). take c.width d ++ drop j b1) l in (
        ap (take c.width) v2 ∙ take_at (take c.width d) (drop c.width b1) c.width l ∙ hash,
        sym (drop-drop 4 c.width b2)
            ∙ ap (drop 4) (ap (drop c.width) v2 ∙ drop_at (take c.width d) (drop c.width b1) c.width l ∙ rest)
            ∙ drop_at (be4 t) (drop 4 (drop c.width b)) 4 (length-be4 t)
            ∙ drop-drop 4 c.width b
            ∙ f,
      )

-- ---- the writes of a framed block
abbrev zs : ℕ → List ℕ
zs n = replicate n 0

-- a part in the middle replaced
pub splice_middle : (x y z : List ℕ) (a : ℕ) (s : List ℕ) → length x ≡ a → length y ≡ length s → splice (x ++ (y ++ z)) a s ≡ x ++ (s ++ z)
unfolding splice
splice_middle x y z a s e f =
    rw (take_at x (y ++ z) a e, drop_at x (y ++ z) a e, drop_at y z (length s) f)

zeros_split : (n a b : ℕ) → n ≡ a + b → zs n ≡ zs a ++ zs b
zeros_split n a b e = rw e (sym (replicate-append-replicate a b 0))

zero-bytes : be4 0 ≡ zs 4
unfolding be4
zero-bytes = refl

-- the padding of a step's message
tail_is : (n : ℕ) → n ≤ 42 → H.tail n ≡ 0x80 ∷ (zs (59 - n) ++ be4 (8 * n))
unfolding H.tail be8
tail_is n h =
    let z : H.zeros n ≡ 55 - n = omega arith in
    let high : 8 * n / 256 ^ 4 ≡ 0 = omega arith in
    let low : 8 * n % 256 ^ 4 ≡ 8 * n = omega arith in
    rw (z, high, low, zero-bytes, zeros_split (59 - n) (55 - n) 4 (omega arith)) (simp append_assoc)

-- it is put after the message by the code's writes
pub tail_put : (n : ℕ) (b out x : List ℕ) → n ≤ 42 → out ≡ splice (set b n 0x80) 60 (be4 (8 * n)) → length x ≡ n → b ≡ x ++ zs (64 - n) → out ≡ x ++ H.tail n
tail_put n b out x h p e q =
    let one : 64 - n ≡ suc (63 - n) = omega arith in
    let y = x ++ (0x80 ∷ zs (59 - n)) in
    let l : length y ≡ 60 = simp (length-append, length-replicate) (omega arith) in
    let s : set b n 0x80 ≡ y ++ zs 4 =
    ap (λ (z : List ℕ). set z n 0x80) (q ∙ ap (λ (j : ℕ). x ++ zs j) one)
    ∙ set_at x 0 (zs (63 - n)) 0x80 n e
    ∙ rw (zeros_split (63 - n) (59 - n) 4 (omega arith)) (sym (append_assoc x (0x80 ∷ zs (59 - n)) (zs 4))) in
    p ∙ ap (λ (z : List ℕ). splice z 60 (be4 (8 * n))) s
    ∙ splice_end y (zs 4) 60 (be4 (8 * n)) l (sym (length-be4 (8 * n)))
    ∙ rw (tail_is n h) (simp append_assoc)

-- the key and α, by the code's writes
pub laid_is : (c : Chain) (key z b1 b2 : List ℕ) → c.width ≤ 32 → length c.alpha ≡ 6 → length key ≡ 32 → z ≡ zs 64
    → b1 ≡ splice z 0 (part key 0 c.width)
    → b2 ≡ splice b1 (c.width + 4) (part c.alpha 0 6)
    → b2 ≡ laid_out c key
unfolding part
laid_is c key z b1 b2 h a e p q r =
    let w = c.width in
    let k = take w key in
    let n : length k ≡ w = length-take-le w key (omega arith) in
    let n4 : length (k ++ zs 4) ≡ w + 4 = simp (length-append, length-replicate) (omega arith) in
    let q2 : b1 ≡ k ++ zs 4 ++ (zs 6 ++ zs (54 - w)) =
    q ∙ ap (λ (l : List ℕ). splice l 0 k) p
    ∙ splice-start 64 0 k
    ∙ ap (λ (j : ℕ). k ++ zs (64 - j)) n
    ∙ rw (zeros_split (64 - w) 4 (60 - w) (omega arith), zeros_split (60 - w) 6 (54 - w) (omega arith)) (sym (append_assoc k (zs 4) (zs 6 ++ zs (54 - w)))) in
    r ∙ ap (splice b1 (w + 4)) (take_all 6 c.alpha (omega arith)) ∙ ap (λ (l : List ℕ). splice l (w + 4) c.alpha) q2 ∙ splice_middle (k ++ zs 4) (zs 6) (zs (54 - w)) (w + 4) c.alpha n4 (sym a)

-- a key, α and a padding that is put after them
pub framed_is : (c : Chain) (key b2 b padding : List ℕ) → c.width ≤ 32 → length c.alpha ≡ 6 → length key ≡ 32 → b2 ≡ laid_out c key
    → ((x : List ℕ) → length x ≡ c.width + 10 → b2 ≡ x ++ zs (64 - (c.width + 10)) → b ≡ x ++ padding)
    → (take c.width b ≡ take c.width key) × Framed c padding b
framed_is c key b2 b padding h a e r put =
    let w = c.width in
    let k = take w key in
    let x = k ++ zs 4 ++ c.alpha in
    let n : length k ≡ w = length-take-le w key (omega arith) in
    let n4 : length (k ++ zs 4) ≡ w + 4 = simp (length-append, length-replicate) (omega arith) in
    let n10 : length x ≡ w + 10 = simp (length-append, length-replicate) (omega arith) in
    let z : 54 - w ≡ 64 - (w + 10) = omega arith in
    let s : b ≡ x ++ padding =
    put x n10 (r ∙ ap (λ (j : ℕ). k ++ zs 4 ++ (c.alpha ++ zs j)) z ∙ sym (append_assoc (k ++ zs 4) c.alpha (zs (64 - (w + 10))))) in (
      ap (take w) (s ∙ append_assoc (k ++ zs 4) c.alpha padding ∙ append_assoc k (zs 4) (c.alpha ++ padding)) ∙ take_at k (zs 4 ++ (c.alpha ++ padding)) w n,
      ap (drop (w + 4)) (s ∙ append_assoc (k ++ zs 4) c.alpha padding) ∙ drop_at (k ++ zs 4) (c.alpha ++ padding) (w + 4) n4,
    )

-- ---- the key's bytes of 32

pub front_splice : (d s : List ℕ) (w : ℕ) → length s ≡ w → take w (splice d 0 s) ≡ s
unfolding splice
front_splice d s w e = take_at s (drop (length s) d) w e

pub splice_front : (d : List ℕ) (w : ℕ) → splice d 0 (take w d) ≡ d
unfolding splice
splice_front d w =
    ⊎_elim
    (λ h. rw (length-take-le w d (omega arith)) (take-append-drop w d))
    (λ h. rw (take_all w d h, drop_of_length-le d {i = length d} (omega arith)) (append-nil d))
    (below? w (length d))

-- the 32 bytes of a key that was walked
pub walked_length : (c : Chain) (n m : ℕ) (key out : List ℕ) → c.width ≤ S.hash_bytes c.hf → length key ≡ 32 → out ≡ splice key 0 (S.walk c n m (take c.width key)) → length out ≡ 32
walked_length c n m key out h e p =
    let l = length-walk c n m (take c.width key) h (length-key c key h e) in
    let s = key_short c h in
    ap length p ∙ length_splice key 0 (S.walk c n m (take c.width key)) (omega arith) ∙ e

-- the key's bytes of a key that was walked down to slot m
pub walked_key : (c : Chain) (slot m : ℕ) (key out : List ℕ) → c.width ≤ S.hash_bytes c.hf → length key ≡ 32 → out ≡ splice key 0 (S.key_of_slot c (S.held slot (take c.width key)) m)
    → take c.width out ≡ S.key_of_slot c (S.held slot (take c.width key)) m
unfolding S.key_of_slot
walked_key c slot m key out w n e =
    ap (take c.width) e
    ∙ front_splice key (S.walk c (slot - m) m (take c.width key)) c.width (length-walk c (slot - m) m (take c.width key) w (length-key c key w n))

-- the key's bytes and the length of a key of slot m that was walked down to from a key that was met
pub met_walked : (c : Chain) (h : S.Held) (at m : ℕ) (key out : List ℕ) → c.width ≤ S.hash_bytes c.hf → length key ≡ 32 → Met c h at key → (at < m → at ≡ h.slot)
    → out ≡ splice key 0 (S.key_of_slot c (S.held at (take c.width key)) m) → (length out ≡ 32) × (take c.width out ≡ S.key_of_slot c h m)
unfolding S.key_of_slot
met_walked c h at m key out w n t f e =
    (walked_length c (at - m) m key out w n e, walked_key c at m key out w n e ∙ met_on c h at m key t f)

-- at or above the held slot the held key stays
pub key-kept : (c : Chain) (h m : ℕ) (key : List ℕ) → h ≤ m → key ≡ splice key 0 (S.key_of_slot c (S.held h (take c.width key)) m)
unfolding S.key_of_slot
key-kept c h m key l = sym (ap (splice key 0) (walk_none c (h - m) m (take c.width key) (omega arith)) ∙ splice_front key c.width)

-- ---- the key of one slot checked against that of another

-- which of two lists comes first does not matter
same_turned : (xs ys : List ℕ) → same xs ys ≡ same ys xs
same_turned xs ys = go (same ys xs) refl
  where
    go : (b : Bool) → same ys xs ≡ b → same xs ys ≡ b
    go true e = same_equal xs ys (sym (same_true ys xs e))
    go false e = same_differ xs ys (λ p. same_false ys xs e (sym p))

-- the key at the end of a way that was walked in two parts
pub two_parts : (c : Chain) (high stop low : ℕ) (top here last end : List ℕ) (f : Bool) → c.width ≤ S.hash_bytes c.hf → length top ≡ 32 → low ≤ stop → stop ≤ high
    → here ≡ splice top 0 (S.key_of_slot c (S.held high (take c.width top)) stop)
    → last ≡ splice here 0 (S.key_of_slot c (S.held stop (take c.width here)) low)
    → f ≡ same (part last 0 c.width) (part end 0 c.width)
    → f ≡ same (S.key_of_slot c (S.held high (take c.width top)) low) (take c.width end)
unfolding part S.key_of_slot
two_parts c high stop low top here last end f w n l u p q e =
    let k = walked_key c high stop top here w n p in
    let m = walked_length c (high - stop) stop top here w n p in
    e
    ∙ ap (λ (x : List ℕ). same x (take c.width end))
    (walked_key c stop low here last w m q ∙ ap (λ (x : List ℕ). S.key_of_slot c (S.held stop x) low) k ∙ walk_on c (S.held high (take c.width top)) stop low l u)

-- the higher of two keys, walked down to the lower one's slot, is that key just where the key fits
pub fits_up : (c : Chain) (h : S.Held) (slot : ℕ) (key : List ℕ) (f : Bool) → h.slot < slot → f ≡ same (S.key_of_slot c (S.held slot key) h.slot) h.key
    → f ≡ S.key_fits c h slot key
unfolding S.key_fits S.key_of_slot
fits_up c h slot key f l e = rw (lt-ltb h.slot slot l) e

pub fits_down : (c : Chain) (h : S.Held) (slot : ℕ) (key : List ℕ) (f : Bool) → slot ≤ h.slot → f ≡ same (S.key_of_slot c h slot) key
    → f ≡ S.key_fits c h slot key
unfolding S.key_fits S.key_of_slot
fits_down c h slot key f l e = rw (le-ltb h.slot slot l) (e ∙ same_turned (S.walk c (h.slot - slot) slot h.key) key)

-- the higher of the two
pub higher_up : (h : S.Held) (slot : ℕ) (key : List ℕ) → h.slot < slot → S.higher h slot key ≡ S.held slot key
unfolding S.higher
higher_up h slot key l = rw (lt-ltb h.slot slot l)

pub higher_down : (h : S.Held) (slot : ℕ) (key : List ℕ) → slot ≤ h.slot → S.higher h slot key ≡ h
unfolding S.higher
higher_down h slot key l = rw (le-ltb h.slot slot l)

-- a key that fits is met at its slot on the way down from the higher of the two
pub met_sent : (c : Chain) (h : S.Held) (slot : ℕ) (key : List ℕ) → S.key_fits c h slot (take c.width key) ≡ true → Met c (S.higher h slot (take c.width key)) slot key
unfolding S.higher
met_sent c h slot key f = go (ltb h.slot slot) refl
  where
    go : (b : Bool) → ltb h.slot slot ≡ b → Met c (cond b (S.held slot (take c.width key)) h) slot key
    go true t = met_here c slot key
    go false t = met_fits c h slot key (ltb-false h.slot slot t) f

-- what was met on the way down from a key is met from the higher of it and a key that fits
pub way_higher : (c : Chain) (h : S.Held) (slot : ℕ) (key : List ℕ) (w : Way) → S.key_fits c h slot key ≡ true → OnWay c h w → OnWay c (S.higher h slot key) w
unfolding S.higher
way_higher c h slot key w f o = go (ltb h.slot slot) refl
  where
    go : (b : Bool) → ltb h.slot slot ≡ b → OnWay c (cond b (S.held slot key) h) w
    go true t = way_from_above c h slot key w (ltb-true h.slot slot t) f o
    go false t = o
