-- The gathering of blocks: every marked block came in an HKROOT half answered 0, and a complete DSM has all its blocks.
use Prim.Native.Nat.{ℕ, zero, suc, ◌+◌, ◌-◌, ◌*◌, ◌/◌, ◌^◌, ◌≤◌, ◌<◌}
use mathlib.Core.Path.{◌≡◌, refl, sym, ◌∙◌, ap}
use mathlib.Core.Logic.{◌≢◌, ◌⊎◌, inl, inr, ⊎_elim}
use mathlib.Core.Bool.{Bool, true, false, cond, ◌&&◌, not}
use mathlib.Core.List.{List, [], ◌∷◌}
use mathlib.Core.Option.{some}
use native.Mathlib.Nat.{zero-div}
use native.Mathlib.Omega.{arith}
use lib.Count.{ones}
use lib.Dec.{eqb, ltb}
use lib.ListN.{length, get_or, set, length-append, length-set}
use lib.Seq.{get_or-set_same, get_or-set_other}
use borrow.Author.Tests.{leb-false, eqb-true, eqb-false, eq-eqb}
use Rattle.laws.specs.Lists.{part}
use Rattle.laws.specs.Refusal.{neb}
use Rattle.laws.proofs.Refusal.{neb_false}
use Rattle.laws.proofs.Splice.{part_splice_same, length_part, length_splice, either, below?, part-part}
use Rattle.laws.proofs.Tests.{and_left, and_right, neither}
use Rattle.rules.specs.Bits.{same}
use Rattle.rules.specs.Calls.{Subframe, fields_of}
use Rattle.rules.specs.Claim.{BlockCame}
use Rattle.rules.specs.Gather.{hkroot_of, dsm_id_of, block_id_of, block_of, header_of, total_of, marked, with_mark, stored_block, drops_blocks, kept_marks, reserved_count, too_high, with_block, complete, dsm_of, once_taken_out}
use Rattle.rules.specs.Log.{Entry, Log, Once, here, earlier, hkroot_in}
use Rattle.rules.specs.State.{Store, blocks_length, dsm_ids}
use Rattle.rules.specs.Times.{seconds_of}
use Rattle.rules.proofs.Bounds.{dsm_id_bound, block_id_bound, total_cases, total_bound}
use Rattle.rules.proofs.Choices.{no}
use Rattle.rules.proofs.Invariant.{BlocksAre, Unfinished}
use Rattle.rules.proofs.Marks.{mark_cases, mark_low, full_marked, none_marked}
use Rattle.rules.proofs.Parts.{part_beside}

pub length_hkroot : (f : List ℕ) (n : ℕ) → length (hkroot_of f n) ≡ n
unfolding hkroot_of
length_hkroot f zero = refl
length_hkroot f (suc n) = length-append (hkroot_of f n) (get_or f (5 * n) 0 ∷ []) ∙ rw (length_hkroot f n) (omega arith)

length-block : (hk : List ℕ) → length hk ≡ 15 → length (block_of hk) ≡ 13
unfolding block_of
length-block hk h = length_part hk 2 13 (omega arith)

total_some : (d : List ℕ) → total_of d ≢ 0 → 0 < total_of d
total_some d h = ⊎_elim (λ e. absurd (h e)) (λ k. let z = k.0 in omega arith) (total_cases d)

-- the last of the four drops: a block 0 whose count is not above every stored block ID
count_above : (st : Store) (t id : ℕ) (hk : List ℕ) → drops_blocks st t id hk ≡ false → eqb (block_id_of hk) 0 ≡ true → neb (get_or st.present id 0 / 2 ^ total_of (block_of hk)) 0 ≡ false
unfolding drops_blocks
count_above st t id hk e f =
    let a = neither (ltb 3600 (seconds_of t - seconds_of (get_or st.since id 0))) _ e in
    let b = neither (neb (get_or st.headers id 0) (header_of hk)) _ a.1 in
    let c = neither (marked (get_or st.present id 0) (block_id_of hk) && not (same (stored_block st.blocks id (block_id_of hk)) (block_of hk))) _ b.1 in
    let d = neither (eqb (block_id_of hk) 0 && neb (get_or st.present id 0 / 2 ^ total_of (block_of hk)) 0) false c.1 in
    rw f at d.0

-- ---- a block that is stored

module _ (st : Store) (t : ℕ) (hk : List ℕ) (blocks-size : length st.blocks ≡ blocks_length) (marks-size : length st.present ≡ dsm_ids) (hk_size : length hk ≡ 15) where
  -- its DSM ID and block ID, and the marks that are left when it comes
  abbrev id : ℕ
  id = dsm_id_of hk

  abbrev place : ℕ
  place = block_id_of hk

  abbrev kept : ℕ
  kept = kept_marks st t (dsm_id_of hk) hk

  unfoldable pub new : Store
  new = with_block st t id hk

  fits : id * 208 + place * 13 + length (block_of hk) ≤ length st.blocks
  fits = let a = dsm_id_bound hk in let b = block_id_bound hk in let c = length-block hk hk_size in omega arith

  pub new_size : length new.blocks ≡ blocks_length
  unfolding new with_block
  new_size = length_splice st.blocks (id * 208 + place * 13) (block_of hk) fits ∙ blocks-size

  pub own_marks : get_or new.present id 0 ≡ with_mark kept place
  unfolding new with_block
  own_marks = let a = dsm_id_bound hk in get_or-set_same st.present id _ 0 (omega arith)

  pub other_marks : (i : ℕ) → i ≢ id → get_or new.present i 0 ≡ get_or st.present i 0
  unfolding new with_block
  other_marks i n = get_or-set_other st.present id i _ 0 n

  own_block : stored_block new.blocks id place ≡ block_of hk
  unfolding new with_block stored_block
  own_block = part_splice_same st.blocks (id * 208 + place * 13) (block_of hk) fits 13 (sym (length-block hk hk_size))

  -- a place of another ID, or another place of this one
  pub other_place : (i k : ℕ) → i < 16 → k < 16 → (i ≢ id) ⊎ (k ≢ place) → stored_block new.blocks i k ≡ stored_block st.blocks i k
  unfolding new with_block stored_block
  other_place i k hi hk' w =
      part_beside st.blocks (id * 208 + place * 13) (block_of hk) fits (i * 208 + k * 13) 13 (omega arith)
      (⊎_elim (λ n. by_id n) (λ n. by_place n) w)
    where
      by_id : i ≢ id → (i * 208 + k * 13 + 13 ≤ id * 208 + place * 13) ⊎ (id * 208 + place * 13 + length (block_of hk) ≤ i * 208 + k * 13)
      by_id n =
          let b = block_id_bound hk in
          let c = length-block hk hk_size in
          ⊎_elim (λ h. inl (omega arith)) (λ h. inr (omega (arith, n, h, b, c))) (below? i id)

      by_place : k ≢ place → (i * 208 + k * 13 + 13 ≤ id * 208 + place * 13) ⊎ (id * 208 + place * 13 + length (block_of hk) ≤ i * 208 + k * 13)
      by_place n =
          let b = block_id_bound hk in
          let c = length-block hk hk_size in
          ⊎_elim
          (λ h. inl (omega arith))
          (λ h. ⊎_elim (λ j. inr (omega arith)) (λ j. ⊎_elim (λ p. inl (omega arith)) (λ p. inr (omega (arith, n, h, j, p, b, c))) (below? k place)) (below? id i))
          (below? i id)

  -- a mark of this ID's blocks that is left was there, and nothing was dropped
  kept_mark : (k : ℕ) → marked kept k ≡ true → kept ≡ get_or st.present id 0
  unfolding kept_marks
  kept_mark k h = go (drops_blocks st t id hk) h
    where
      go : (b : Bool) → marked (cond b 0 (get_or st.present id 0)) k ≡ true → cond b 0 (get_or st.present id 0) ≡ get_or st.present id 0
      go true h = no (none_marked k) h
      go false h = refl

  -- a block 0 that comes has a count above every mark that is left
  kept_low : place ≡ 0 → kept / 2 ^ total_of (block_of hk) ≡ 0
  unfolding kept_marks
  kept_low z = go (drops_blocks st t id hk) refl
    where
      last : drops_blocks st t id hk ≡ false → get_or st.present id 0 / 2 ^ total_of (block_of hk) ≡ 0
      last e = neb_false (get_or st.present id 0 / 2 ^ total_of (block_of hk)) 0 (count_above st t id hk e (eq-eqb place 0 z))

      go : (b : Bool) → drops_blocks st t id hk ≡ b → cond b 0 (get_or st.present id 0) / 2 ^ total_of (block_of hk) ≡ 0
      go true e = zero-div (2 ^ total_of (block_of hk))
      go false e = last e

  -- what the checks of a block say
  pub record Fit : Type 0 where
    pub counted : reserved_count hk ≡ false
    pub not_high : too_high st t id hk ≡ false

  count_some : Fit → place ≡ 0 → 0 < total_of (block_of hk)
  unfolding reserved_count
  count_some f z = total_some (block_of hk) (eqb-false (total_of (block_of hk)) 0 (rw (eq-eqb place 0 z) at f.counted))

  under_count : Fit → marked kept 0 ≡ true → place < total_of (stored_block st.blocks id 0)
  unfolding too_high
  under_count f m = leb-false (total_of (stored_block st.blocks id 0)) place (rw m at f.not_high)

  -- taken out: this ID has no marks, whatever the half is answered
  pub out_marks : get_or (once_taken_out new id).present id 0 ≡ 0
  unfolding once_taken_out new with_block
  out_marks = let a = dsm_id_bound hk in get_or-set_same (set st.present id (with_mark kept place)) id 0 0 (omega (arith, length-set st.present id (with_mark kept place)))

  pub out_other : (i : ℕ) → i ≢ id → get_or (once_taken_out new id).present i 0 ≡ get_or new.present i 0
  unfolding once_taken_out
  out_other i n = get_or-set_other new.present id i 0 0 n

  out_none : (k : ℕ) → marked (get_or (once_taken_out new id).present id 0) k ≡ false
  out_none k = rw out_marks (none_marked k)

  -- ---- no ID is left with all of its blocks

  kept_sixteen : get_or st.present id 0 / 2 ^ 16 ≡ 0 → kept / 2 ^ 16 ≡ 0
  unfolding kept_marks
  kept_sixteen h = go (drops_blocks st t id hk)
    where
      go : (b : Bool) → cond b 0 (get_or st.present id 0) / 2 ^ 16 ≡ 0
      go true = zero-div (2 ^ 16)
      go false = h

  new_sixteen : Unfinished st → (i : ℕ) → i < 16 → get_or new.present i 0 / 2 ^ 16 ≡ 0
  new_sixteen u i h =
      ⊎_elim
      (λ e. (let z = eqb-true i id e in rw (z, own_marks) (mark_low 16 kept place (kept_sixteen (u.sixteen id (dsm_id_bound hk))) (block_id_bound hk))))
      (λ e. rw (other_marks i (eqb-false i id e)) (u.sixteen i h))
      (either (eqb i id))

  other_incomplete : Unfinished st → (i : ℕ) → i < 16 → i ≢ id → complete new i ≡ false
  unfolding complete
  other_incomplete u i h n = rw (other_marks i n, other_place i 0 h (omega arith) (inl n)) (u.incomplete i h)

  pub new_unfinished : Unfinished st → complete new id ≡ false → Unfinished new
  new_unfinished u own =
      record {
        sixteen = new_sixteen u;
        incomplete = λ i h.
            ⊎_elim (λ e. (let z = eqb-true i id e in rw z own)) (λ e. other_incomplete u i h (eqb-false i id e)) (either (eqb i id));
      }

  out_incomplete : complete (once_taken_out new id) id ≡ false
  unfolding complete
  out_incomplete = rw (out_none 0) refl

  out_other_incomplete : Unfinished st → (i : ℕ) → i < 16 → i ≢ id → complete (once_taken_out new id) i ≡ false
  unfolding complete once_taken_out
  out_other_incomplete u i h n = rw (out_other i n) (other_incomplete u i h n)

  pub out_unfinished : Unfinished st → Unfinished (once_taken_out new id)
  out_unfinished u =
      record {
        sixteen = λ i h.
            ⊎_elim
            (λ e. (let z = eqb-true i id e in rw (z, out_marks) (zero-div (2 ^ 16))))
            (λ e. rw (out_other i (eqb-false i id e)) (new_sixteen u i h))
            (either (eqb i id));
        incomplete = λ i h.
            ⊎_elim (λ e. (let z = eqb-true i id e in rw z out_incomplete)) (λ e. out_other_incomplete u i h (eqb-false i id e)) (either (eqb i id));
      }

  module _ (f : Fit) (l : Log) (v : BlocksAre st l) where
    -- none of this ID's marks is past the count of its block 0
    own_low : marked (get_or new.present id 0) 0 ≡ true → get_or new.present id 0 / 2 ^ total_of (stored_block new.blocks id 0) ≡ 0
    own_low m =
        rw own_marks
        (⊎_elim
        (λ e. (
        let z = eqb-true place 0 e in
        let b : stored_block new.blocks id 0 ≡ block_of hk = ap (stored_block new.blocks id) (sym z) ∙ own_block in
        rw b (mark_low (total_of (block_of hk)) kept place (kept_low z) (let c = count_some f z in omega arith))
        ))
        (λ e. (
        let z = eqb-false place 0 e in
        let b : stored_block new.blocks id 0 ≡ stored_block st.blocks id 0 = other_place id 0 (dsm_id_bound hk) (omega arith) (inr (λ y. z (sym y))) in
        let w : marked (with_mark kept place) 0 ≡ true = ap (λ (n : ℕ). marked n 0) (sym own_marks) ∙ m in
        rw b
        (⊎_elim
        (λ y. absurd (z (sym y)))
        (λ k. (
        let same-marks = kept_mark 0 k in
        mark_low (total_of (stored_block st.blocks id 0)) kept place
        (rw same-marks (v.low id (dsm_id_bound hk) (ap (λ (n : ℕ). marked n 0) (sym same-marks) ∙ k)))
        (under_count f k)
        ))
        (mark_cases kept place 0 w))
        ))
        (either (eqb place 0)))

    -- the marks and blocks of other IDs are as before
    other_low : (i : ℕ) → i < 16 → i ≢ id → marked (get_or new.present i 0) 0 ≡ true → get_or new.present i 0 / 2 ^ total_of (stored_block new.blocks i 0) ≡ 0
    other_low i h n m =
        rw (other_marks i n, other_place i 0 h (omega arith) (inl n)) (v.low i h (ap (λ (k : ℕ). marked k 0) (sym (other_marks i n)) ∙ m))

    other_came : (x : Entry) (i k : ℕ) → i < 16 → k < 16 → i ≢ id → marked (get_or new.present i 0) k ≡ true → Once (BlockCame (stored_block new.blocks i k) i k) (x ∷ l)
    other_came x i k h g n m =
        rw (other_place i k h g (inl n)) (earlier (v.came i k h g (ap (λ (j : ℕ). marked j k) (sym (other_marks i n)) ∙ m)))

    -- in a half answered 0, the block that came and those that were there
    module _ (x : Entry) (sub : Subframe) (half_is : hkroot_in x ≡ some sub) (hk-is : hkroot_of (fields_of sub) 15 ≡ hk) where
      own_came : (k : ℕ) → k < 16 → marked (get_or new.present id 0) k ≡ true → Once (BlockCame (stored_block new.blocks id k) id k) (x ∷ l)
      own_came k g m =
          ⊎_elim
          (λ e. (
          let z = eqb-true k place e in
          rw z
          (here (record {
            sub = sub;
            half_is = half_is;
            id_is = ap dsm_id_of hk-is;
            place_is = ap block_id_of hk-is;
            block_is = ap block_of hk-is ∙ sym own_block;
          }))
          ))
          (λ e. (
          let z = eqb-false k place e in
          let w : marked (with_mark kept place) k ≡ true = ap (λ (n : ℕ). marked n k) (sym own_marks) ∙ m in
          rw (other_place id k (dsm_id_bound hk) g (inr z))
          (⊎_elim
          (λ y. absurd (z y))
          (λ y. earlier (v.came id k (dsm_id_bound hk) g (ap (λ (n : ℕ). marked n k) (sym (kept_mark k y)) ∙ y)))
          (mark_cases kept place k w))
          ))
          (either (eqb k place))

      pub new_blocks : BlocksAre new (x ∷ l)
      new_blocks =
          record {
            came = λ i k h g m.
                ⊎_elim
                (λ e. (let z = eqb-true i id e in rw z (own_came k g (ap (λ (j : ℕ). marked (get_or new.present j 0) k) (sym z) ∙ m))))
                (λ e. other_came x i k h g (eqb-false i id e) m)
                (either (eqb i id));
            low = λ i h m.
                ⊎_elim
                (λ e. (let z = eqb-true i id e in rw z (own_low (ap (λ (j : ℕ). marked (get_or new.present j 0) 0) (sym z) ∙ m))))
                (λ e. other_low i h (eqb-false i id e) m)
                (either (eqb i id));
          }

    -- taken out: whatever the half is answered
    pub out_blocks : (x : Entry) → BlocksAre (once_taken_out new id) (x ∷ l)
    unfolding once_taken_out
    out_blocks x =
        record {
          came = λ i k h g m.
              ⊎_elim
              (λ e. (let z = eqb-true i id e in no (out_none k) (ap (λ (j : ℕ). marked (get_or (once_taken_out new id).present j 0) k) (sym z) ∙ m)))
              (λ e. (let n = eqb-false i id e in other_came x i k h g n (ap (λ (j : ℕ). marked j k) (sym (out_other i n)) ∙ m)))
              (either (eqb i id));
          low = λ i h m.
              ⊎_elim
              (λ e. (let z = eqb-true i id e in no (out_none 0) (ap (λ (j : ℕ). marked (get_or (once_taken_out new id).present j 0) 0) (sym z) ∙ m)))
              (λ e. (let n = eqb-false i id e in rw (out_other i n) (other_low i h n (ap (λ (j : ℕ). marked j 0) (sym (out_other i n)) ∙ m))))
              (either (eqb i id));
        }

-- ---- a complete DSM

-- all blocks of a DSM came in HKROOT halves answered 0, as many as its block 0 names
pub record DsmCame (d : List ℕ) (id : ℕ) (l : Log) : Type 0 where
  pub whole : length d ≡ 13 * total_of (part d 0 13)
  pub blocks : (j : ℕ) → j < total_of (part d 0 13) → Once (BlockCame (part d (13 * j) 13) id j) l

module _ (s : Store) (id : ℕ) (l : Log) (size : length s.blocks ≡ blocks_length) (in_range : id < 16) (v : BlocksAre s l) (full : complete s id ≡ true) where
  zero_marked : marked (get_or s.present id 0) 0 ≡ true
  unfolding complete
  zero_marked = and_left (marked (get_or s.present id 0) 0) _ full

  counted : ones (get_or s.present id 0) ≡ total_of (stored_block s.blocks id 0)
  unfolding complete
  counted = eqb-true _ _ (and_right (marked (get_or s.present id 0) 0) _ full)

  dsm_block : (j : ℕ) → j < total_of (stored_block s.blocks id 0) → part (dsm_of s id) (13 * j) 13 ≡ stored_block s.blocks id j
  unfolding dsm_of stored_block
  dsm_block j h =
      let b = total_bound (part s.blocks (id * 208 + 0 * 13) 13) in
      let e : id * 208 + 13 * j ≡ id * 208 + j * 13 = omega arith in
      part-part s.blocks (id * 208) (13 * total_of (part s.blocks (id * 208 + 0 * 13) 13)) (13 * j) 13 (omega arith) (omega arith)
      ∙ ap (λ (k : ℕ). part s.blocks k 13) e

  some_blocks : 0 < total_of (stored_block s.blocks id 0)
  some_blocks =
      ⊎_elim
      (λ z. (
      let n = v.low id in_range zero_marked in
      let m : get_or s.present id 0 / 2 ^ 0 ≡ 0 = ap (λ (k : ℕ). get_or s.present id 0 / 2 ^ k) (sym z) ∙ n in
      let y : get_or s.present id 0 ≡ 0 = (let w : get_or s.present id 0 / 1 ≡ 0 = m in omega arith) in
      no (none_marked 0) (ap (λ (k : ℕ). marked k 0) (sym y) ∙ zero_marked)
      ))
      (λ h. (let a = h.0 in omega arith))
      (total_cases (stored_block s.blocks id 0))

  first_block : part (dsm_of s id) 0 13 ≡ stored_block s.blocks id 0
  first_block = dsm_block 0 some_blocks

  dsm_length : length (dsm_of s id) ≡ 13 * total_of (stored_block s.blocks id 0)
  unfolding dsm_of stored_block
  dsm_length =
      let b = total_bound (part s.blocks (id * 208 + 0 * 13) 13) in
      length_part s.blocks (id * 208) (13 * total_of (part s.blocks (id * 208 + 0 * 13) 13)) (omega arith)

  pub dsm_came : DsmCame (dsm_of s id) id l
  dsm_came =
      record {
        whole = rw first_block dsm_length;
        blocks = rw first_block
            (λ j h.
            let b = total_bound (stored_block s.blocks id 0) in
            rw (dsm_block j h) (v.came id j in_range (omega arith) (full_marked (total_of (stored_block s.blocks id 0)) (get_or s.present id 0) j (v.low id in_range zero_marked) counted h)));
      }
