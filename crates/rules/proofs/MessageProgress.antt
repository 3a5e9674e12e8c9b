-- The progress of messages (02, P9): what stands behind the two numbers of a DSM ID, and how a block that comes moves them. Assumes nothing.
use Prim.Native.Nat.{ℕ, zero, suc, ◌+◌, ◌-◌, ◌*◌, ◌/◌, ◌%◌, ◌^◌, ◌≤◌, ◌<◌}
use mathlib.Core.Path.{◌≡◌, refl, sym, ◌∙◌, ap}
use mathlib.Core.Logic.{◌≢◌, inl, ⊎_elim}
use mathlib.Core.Bool.{Bool, true, false, cond}
use mathlib.Core.List.{List, [], ◌∷◌, ◌++◌}
use native.Mathlib.Omega.{arith}
use lib.Count.{ones, ones_step}
use lib.Dec.{eqb}
use lib.ListN.{length, get_or, length-append, get_or-append}
use lib.Seq.{get_or-append-add}
use borrow.Author.Tests.{eqb-true, eqb-false}
use Rattle.laws.specs.Refusal.{first_refusal, unless}
use Rattle.laws.proofs.Refusal.{by_test}
use Rattle.laws.proofs.Splice.{below?, length_part}
use Rattle.laws.proofs.Tests.{and_left, and_right}
use Rattle.rules.specs.Calls.{ProgressRead, progress_read, progress_read_checks}
use Rattle.rules.specs.Claim.{ProgressIs}
use Rattle.rules.specs.Gather.{Gathered, dsm_id_of, block_id_of, total_of, marked, kept_marks, stored_block, with_block, complete, dsm_of, once_taken_out, gather_checks, stored, gathered}
use Rattle.rules.specs.Log.{Log}
use Rattle.rules.specs.Progress.{blocks_held, progress_of, pair_of, pairs_of}
use Rattle.rules.specs.ProgressLaws.{Sized, MessageProgress}
use Rattle.rules.specs.State.{State, Store, dsm_ids}
use Rattle.rules.specs.declared.Progress.{Progress}
use Rattle.rules.specs.declared.Progress.TheVariants.{Unknown, Counted}
use Rattle.rules.proofs.Bounds.{dsm_id_bound, total_bound}
use Rattle.rules.proofs.Choices.{by_number, no}
use Rattle.rules.proofs.Gathering
use Rattle.rules.proofs.Invariant.{BlocksAre, Unfinished}
use Rattle.rules.proofs.Marks.{ones_low, mark_ones, none_marked}

-- ---- the pairs

pub pair_length : (p : Progress) → length (pair_of p) ≡ 2
pair_length (Unknown held) = refl
pair_length (Counted held missing) = refl

pub pairs_length : (s : Store) (n : ℕ) → length (pairs_of s n) ≡ 2 * n
unfolding pairs_of
pairs_length s zero = refl
pairs_length s (suc n) = length-append (pairs_of s n) (pair_of (progress_of s n)) ∙ rw (pairs_length s n, pair_length (progress_of s n)) (omega arith)

-- number k of DSM ID i, at its place
pairs_at : (s : Store) (n i k place : ℕ) → i < n → k < 2 → place ≡ 2 * i + k → get_or (pairs_of s n) place 0 ≡ get_or (pair_of (progress_of s i)) k 0
unfolding pairs_of
pairs_at s zero i k place h g e = absurd (omega arith)
pairs_at s (suc n) i k place h g e =
    ⊎_elim
    (λ j. (
    let d = pairs_length s n in
    get_or-append (pairs_of s n) (pair_of (progress_of s n)) 0 place (omega arith) ∙ pairs_at s n i k place j g e
    ))
    (λ j. (
    let z : i ≡ n = omega arith in
    let p : place ≡ length (pairs_of s n) + k = (let d = pairs_length s n in omega arith) in
    rw (z, p) (get_or-append-add (pairs_of s n) (pair_of (progress_of s n)) k 0)
    ))
    (below? i n)

-- ---- what stands behind them

module _ (s : Store) (l : Log) (v : BlocksAre s l) (u : Unfinished s) (id : ℕ) (h : id < 16) where
  abbrev marks : ℕ
  marks = get_or s.present id 0

  -- fewer blocks are held than block 0 names
  fewer : marked marks 0 ≡ true → ones marks < total_of (stored_block s.blocks id 0)
  unfolding complete
  fewer m =
      let a = ones_low (total_of (stored_block s.blocks id 0)) marks (v.low id h m) in
      let b = eqb-false (ones marks) (total_of (stored_block s.blocks id 0)) (rw m at (u.incomplete id h)) in
      omega (arith, a, b)

  told_is : ProgressIs id (get_or (pair_of (progress_of s id)) 0 0) (get_or (pair_of (progress_of s id)) 1 0) l
  unfolding progress_of blocks_held
  told_is =
      by_test (λ (p : Progress). ProgressIs id (get_or (pair_of p) 0 0) (get_or (pair_of p) 1 0) l) (marked marks 0)
      (λ m. record {
        present = marks;
        block = stored_block s.blocks id;
        sixteen = u.sixteen id h;
        held_is = refl;
        came = λ k. v.came id k h;
        without_first = λ n. no n m;
        with_first = λ _. ((let f = fewer m in omega arith), v.low id h m);
        some_missing = (let f = fewer m in omega arith);
      })
      (λ n. record {
        present = marks;
        block = stored_block s.blocks id;
        sixteen = u.sixteen id h;
        held_is = refl;
        came = λ k. v.came id k h;
        without_first = λ _. refl;
        with_first = λ m. no n m;
        some_missing = omega arith;
      })

-- the answer of the question
pub progress_is : (s : State) (l : Log) → BlocksAre s.store l → Unfinished s.store → (out : List ℕ) → (progress_read s out).code ≡ 0 → (id : ℕ) → id < 16
    → ProgressIs id (get_or (progress_read s out).out (2 * id) 0) (get_or (progress_read s out).out (2 * id + 1) 0) l
unfolding progress_read
progress_is s l v u out ok id h =
    by_number (λ (r : ProgressRead). r.code ≡ 0 → ProgressIs id (get_or r.out (2 * id) 0) (get_or r.out (2 * id + 1) 0) l) (first_refusal (progress_read_checks s out))
    (λ _ _. rw (pairs_at s.store dsm_ids id 0 (2 * id) h (omega arith) (omega arith), pairs_at s.store dsm_ids id 1 (2 * id + 1) h (omega arith) (omega arith)) (told_is s.store l v u id h))
    (λ n e. absurd (n e))
    ok

-- ---- how a block that comes moves them

module _ (s : Store) (t : ℕ) (hk : List ℕ) where
  -- the store with the block
  abbrev new : Store
  new = with_block s t (dsm_id_of hk) hk

  -- the three things that a block can do: complete its DSM, which is taken out; be held; be refused
  each_way : (P : Gathered → Type 0)
      → (complete new (dsm_id_of hk) ≡ true → P (record { code = 0; store = once_taken_out new (dsm_id_of hk); dsm = dsm_of new (dsm_id_of hk) }))
      → P (record { code = 0; store = new; dsm = [] })
      → ((n : ℕ) → n ≢ 0 → P (record { code = n; store = s; dsm = [] }))
      → P (gathered s t hk)
  unfolding gathered stored
  each_way P out held refused =
      by_number P (first_refusal (gather_checks s t (dsm_id_of hk) hk))
      (λ _. by_test P (complete new (dsm_id_of hk)) out (λ _. held))
      (λ n. refused (first_refusal (gather_checks s t (dsm_id_of hk) hk)) n)

  refused : (gathered s t hk).code ≢ 0 → (gathered s t hk).store ≡ s
  refused = each_way (λ (g : Gathered). g.code ≢ 0 → g.store ≡ s) (λ _ n. absurd (n refl)) (λ n. absurd (n refl)) (λ _ _ _. refl)

  module _ (z : Sized s hk) where
    -- a complete DSM has blocks
    some_bytes : complete new (dsm_id_of hk) ≡ true → length (dsm_of new (dsm_id_of hk)) ≢ 0
    unfolding complete dsm_of marked Gathering.new
    some_bytes full e =
        let m = eqb-true (get_or new.present (dsm_id_of hk) 0 / 2 ^ 0 % 2) 1 (and_left _ _ full) in
        let c = eqb-true (ones (get_or new.present (dsm_id_of hk) 0)) (total_of (stored_block new.blocks (dsm_id_of hk) 0)) (and_right (marked (get_or new.present (dsm_id_of hk) 0) 0) _ full) in
        let o = ones_step (get_or new.present (dsm_id_of hk) 0) in
        let b = total_bound (stored_block new.blocks (dsm_id_of hk) 0) in
        let i = dsm_id_bound hk in
        let w = Gathering.new_size s t hk z.blocks z.present z.section in
        let d = length_part new.blocks (dsm_id_of hk * 208) (13 * total_of (stored_block new.blocks (dsm_id_of hk) 0)) (omega arith) in
        omega arith

    counted_once : (gathered s t hk).code ≡ 0 → length (gathered s t hk).dsm ≡ 0
        → blocks_held (gathered s t hk).store (dsm_id_of hk) ≡ ones (kept_marks s t (dsm_id_of hk) hk) + cond (marked (kept_marks s t (dsm_id_of hk) hk) (block_id_of hk)) 0 1
    unfolding blocks_held Gathering.new
    counted_once =
        each_way
        (λ (g : Gathered). g.code ≡ 0 → length g.dsm ≡ 0
        → blocks_held g.store (dsm_id_of hk) ≡ ones (kept_marks s t (dsm_id_of hk) hk) + cond (marked (kept_marks s t (dsm_id_of hk) hk) (block_id_of hk)) 0 1)
        (λ full _ e. absurd (some_bytes full e))
        (λ _ _. rw (Gathering.own_marks s t hk z.blocks z.present z.section) (mark_ones (kept_marks s t (dsm_id_of hk) hk) (block_id_of hk)))
        (λ n f e. absurd (f e))

    taken_out : length (gathered s t hk).dsm ≢ 0 → progress_of (gathered s t hk).store (dsm_id_of hk) ≡ Unknown 0
    unfolding progress_of blocks_held Gathering.new ones
    taken_out =
        each_way (λ (g : Gathered). length g.dsm ≢ 0 → progress_of g.store (dsm_id_of hk) ≡ Unknown 0)
        (λ _ _. rw (Gathering.out_marks s t hk z.blocks z.present z.section, none_marked 0) refl)
        (λ n. absurd (n refl))
        (λ _ _ n. absurd (n refl))

    others : (id : ℕ) → id < 16 → id ≢ dsm_id_of hk → progress_of (gathered s t hk).store id ≡ progress_of s id
    unfolding progress_of blocks_held once_taken_out Gathering.new
    others id h n =
        let m = Gathering.other_marks s t hk z.blocks z.present z.section id n in
        let o = Gathering.out_other s t hk z.blocks z.present z.section id n in
        let p = Gathering.other_place s t hk z.blocks z.present z.section id 0 h (omega arith) (inl n) in
        each_way (λ (g : Gathered). progress_of g.store id ≡ progress_of s id) (λ _. rw (o, m, p) refl) (rw (m, p) refl) (λ _ _. refl)

pub message_progress : MessageProgress
message_progress =
    record {
      refused = refused;
      counted_once = counted_once;
      taken_out = taken_out;
      others = others;
    }
