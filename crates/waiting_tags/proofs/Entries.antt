-- The region of waiting tags: an entry's bytes, entries that close up to the front, and entries not yet read, which are then untouched.
-- Assumes nothing.
use mathlib.Core.Path.{◌≡◌, refl, sym, ap, ◌∙◌}
use mathlib.Core.Bool.{Bool, true, false, cond}
use mathlib.Core.List.{List, [], ◌∷◌, ◌++◌, append_assoc}
use native.Mathlib.Nat.{add-sub_cancel_left}
use Prim.Native.Nat.{ℕ, ◌+◌, ◌-◌, ◌*◌, ◌/◌, ◌%◌, ◌≤◌}
use native.Mathlib.Omega.{arith}
use native.Mathlib.Numerals.{add-one}
use lib.ListN.{length, drop, length-append}
use lib.Seq.{paste, drop-drop}
use Rattle.laws.specs.Lists.{part, splice}
use Rattle.laws.specs.Bytes.{be4}
use Rattle.laws.proofs.Splice.{length_part, range_part, splice-append, splice_nil, part_splice_past, part-part, splice-after}
use Rattle.rules.specs.Tags.{tag_entry, entry_at, entry_set}
use Rattle.rules.specs.Verdict.{key_not_before, staying}
use Rattle.rules.specs.declared.Tag.{Tag}
use Rattle.rules.proofs.Entries.{length_entry}
use Rattle.rules.specs.State.{entry_length, copy_length}

-- the set of entry k in the region
pub set_in_region : (w : List ℕ) (k : ℕ) → k * entry_length + entry_length ≤ length w → part w (k * entry_length + 15) 69 ≡ entry_set (entry_at w k)
unfolding entry_set entry_at
set_in_region w k h = sym (part-part w (k * entry_length) entry_length 15 69 h (omega arith))

-- ---- the bytes of an entry: 15, then the set

abbrev head : Tag → List ℕ
head t =
    t.sender ∷ t.prn ∷ t.adkd ∷ t.block ∷ t.position
    ∷ t.time / 16777216 % 256 ∷ t.time / 65536 % 256 ∷ t.time / 256 % 256 ∷ t.time % 256 ∷ t.status
    ∷ t.bits / 4294967296 % 256 ∷ t.bits / 16777216 % 256 ∷ t.bits / 65536 % 256 ∷ t.bits / 256 % 256 ∷ t.bits % 256 ∷ []

pub entry_spliced : (w : List ℕ) (a : ℕ) (t : Tag) (s : List ℕ) → a + entry_length ≤ length w → length s ≡ copy_length
    → splice (splice w a (head t)) (a + 15) s ≡ splice w a (tag_entry t s)
unfolding tag_entry be4
entry_spliced w a t s h e =
    let n : length (head t) ≡ 15 = refl in
    splice-append w a (head t) s (omega arith)

-- ---- bytes that move to an earlier place

pub moved : (d : List ℕ) (from to n : ℕ) → from + n ≤ length d → paste d to (drop from d) (from + n - from) ≡ splice d to (part d from n)
unfolding splice
moved d from to n h =
    let e : length (part d from n) ≡ n = length_part d from n h in
    rw (range_part d from n, add-sub_cancel_left from n, e, drop-drop n to d, append_assoc)

-- ---- entries that close up to the front

-- an entry behind those that were closed up is as it was
pub untouched : (w s : List ℕ) (kept k : ℕ) → length s ≡ kept * entry_length → kept ≤ k → k * entry_length + entry_length ≤ length w → entry_at (splice w 0 s) k ≡ entry_at w k
unfolding entry_at
untouched w s kept k e p h = part_splice_past w 0 s (omega arith) (k * entry_length) entry_length (omega arith) h

-- by a test: how long the kept entries are then
pub longer : (b : Bool) (s e : List ℕ) (kept : ℕ) → length s ≡ kept * entry_length → length e ≡ entry_length → length (s ++ cond b e []) ≡ (kept + cond b 1 0) * entry_length
longer true s e kept p q = simp length-append (omega arith)
longer false s e kept p q = simp length-append (omega arith)

pub at_most : (b : Bool) (e : List ℕ) → length e ≡ entry_length → (length (cond b e []) ≤ entry_length) × (cond b 1 0 ≤ 1)
at_most true e q = (omega arith, omega arith)
at_most false e q = (omega arith, omega arith)

-- ---- those that stay at a new root: none yet, and one entry more

pub none_yet : (root : ℕ) (w : List ℕ) → (length (staying root w 0) ≡ 0 * entry_length) × (w ≡ splice w 0 (staying root w 0))
unfolding staying
none_yet root w = (refl, sym (splice_nil w 0))

module _ (root : ℕ) (w v u : List ℕ) (k kept r : ℕ) (p : kept ≤ k) (h : k * entry_length + entry_length ≤ length w)
    (l : length (staying root w k) ≡ kept * entry_length) (e : v ≡ splice w 0 (staying root w k))
    (f : u ≡ splice v (kept * entry_length) (cond (key_not_before root (entry_at v k)) (entry_at v k) []))
    (g : r ≡ kept + cond (key_not_before root (entry_at v k)) 1 0) where
  same_entry : entry_at v k ≡ entry_at w k
  same_entry = ap (λ (x : List ℕ). entry_at x k) e ∙ untouched w (staying root w k) kept k l p h

  pub stay_region : u ≡ splice w 0 (staying root w (k + 1))
  unfolding staying
  stay_region =
      let b : Bool = key_not_before root (entry_at w k) in
      let m = at_most b (entry_at w k) (length_entry w k h) in
      f ∙ rw (same_entry, e, add-one k) (splice-after w 0 (kept * entry_length) (staying root w k) (cond b (entry_at w k) []) (omega arith) (omega arith))

  pub stay_length : (length (staying root w (k + 1)) ≡ r * entry_length) × (r ≤ k + 1)
  unfolding staying
  stay_length =
      let b : Bool = key_not_before root (entry_at w k) in
      let m = at_most b (entry_at w k) (length_entry w k h) in
      let q : r ≡ kept + cond b 1 0 = g ∙ rw same_entry in
      (rw (add-one k, q) (longer b (staying root w k) (entry_at w k) kept l (length_entry w k h)), omega arith)
