-- What P9 of 02 promises beside its answer (Progress.antt): how a block that comes moves the progress of its message. proofs/MessageProgress.antt shows it; what
-- stands behind the two numbers themselves is in Claim.antt (ProgressIs).
use Rattle.std.specs.Prelude.{ℕ, ◌+◌, ◌<◌, ◌≡◌, ◌≢◌, cond, List, length}
use Rattle.std.specs.Int.Count.{ones}
use Rattle.rules.specs.Gather.{dsm_id_of, block_id_of, marked, kept_marks, gathered}
use Rattle.rules.specs.Progress.{blocks_held, progress_of}
use Rattle.rules.specs.State.{Store, blocks_length, dsm_ids}
use Rattle.rules.specs.declared.Progress.TheVariants.{Unknown}

-- a store and an HKROOT section of right lengths
pub record Sized (s : Store) (hk : List ℕ) : Type 0 where
  pub blocks : length s.blocks ≡ blocks_length
  pub present : length s.present ≡ dsm_ids
  pub section : length hk ≡ 15

pub record MessageProgress : Type 0 where
  -- a block that is refused is not held: nothing moves
  pub refused : (s : Store) (t : ℕ) (hk : List ℕ) → (gathered s t hk).code ≢ 0 → (gathered s t hk).store ≡ s
  -- one that is taken, and does not complete its DSM, is held beside those that are left of its DSM ID, and counted once
  pub counted_once : (s : Store) (t : ℕ) (hk : List ℕ) → Sized s hk → (gathered s t hk).code ≡ 0 → length (gathered s t hk).dsm ≡ 0
      → blocks_held (gathered s t hk).store (dsm_id_of hk)
      ≡ ones (kept_marks s t (dsm_id_of hk) hk) + cond (marked (kept_marks s t (dsm_id_of hk) hk) (block_id_of hk)) 0 1
  -- "A complete DSM is taken out.": its ID then has no block and no total
  pub taken_out : (s : Store) (t : ℕ) (hk : List ℕ) → Sized s hk → length (gathered s t hk).dsm ≢ 0
      → progress_of (gathered s t hk).store (dsm_id_of hk) ≡ Unknown 0
  -- the other DSM IDs stay
  pub others : (s : Store) (t : ℕ) (hk : List ℕ) → Sized s hk → (id : ℕ) → id < 16 → id ≢ dsm_id_of hk
      → progress_of (gathered s t hk).store id ≡ progress_of s id
