-- What a coming block does to the store, case by case.
-- Assumes nothing.
use mathlib.Core.Path.{◌≡◌}
use mathlib.Core.Bool.{Bool, true, false, ◌&&◌}
use mathlib.Core.List.{List}
use Prim.Native.Nat.{ℕ, ◌*◌}
use native.Mathlib.Nat.{add-zero}
use lib.Count.{ones}
use lib.Dec.{leb}
use lib.ListN.{get_or}
use borrow.Author.Tests.{eq-eqb, ne_eqb}
use Rattle.laws.specs.Lists.{part}
use Rattle.rules.specs.State.{Store}
use Rattle.rules.specs.Gather as Rule
use Rattle.gather.specs.Store.{told}
use Rattle.gather.specs.declared.Gathered.TheVariants.{Stored, Complete, Refused}

-- an ID's block 0 stands first
pub first_block : (blocks : List ℕ) (id : ℕ) → Rule.stored_block blocks id 0 ≡ part blocks (id * 208) 13
unfolding Rule.stored_block
first_block blocks id = rw (add-zero (id * 208))

-- ---- a store is complete or not

-- no block 0
pub without_first : (s : Store) (id : ℕ) → Rule.marked (get_or s.present id 0) 0 ≡ false → told Stored s id ≡ Rule.stored s id
unfolding Rule.stored Rule.complete
without_first s id e = rw e

-- other than the count
pub not-counted : (s : Store) (id n : ℕ) → Rule.marked (get_or s.present id 0) 0 ≡ true → n ≡ Rule.total_of (part s.blocks (id * 208) 13)
    → (ones (get_or s.present id 0) ≡ n → ⊥) → told Stored s id ≡ Rule.stored s id
unfolding Rule.stored Rule.complete
not-counted s id n e t h = rw (e, first_block s.blocks id, ← t, ne_eqb _ _ h)

-- as many as the count
pub counted : (s : Store) (id n : ℕ) → Rule.marked (get_or s.present id 0) 0 ≡ true → n ≡ Rule.total_of (part s.blocks (id * 208) 13)
    → ones (get_or s.present id 0) ≡ n → told (Complete (13 * n)) (Rule.once_taken_out s id) id ≡ Rule.stored s id
unfolding Rule.stored Rule.complete Rule.dsm_of Rule.once_taken_out
counted s id n e t h = rw (e, first_block s.blocks id, ← t, eq-eqb _ _ h)

-- ---- a block is refused or stored
module _ (s : Store) (t : ℕ) (hk : List ℕ) where
  pub refused_count : Rule.reserved_count hk ≡ true → told Refused s (Rule.dsm_id_of hk) ≡ Rule.gathered s t hk
  unfolding Rule.gathered
  refused_count e = rw e

  pub refused_high : Rule.reserved_count hk ≡ false → Rule.too_high s t (Rule.dsm_id_of hk) hk ≡ true → told Refused s (Rule.dsm_id_of hk) ≡ Rule.gathered s t hk
  unfolding Rule.gathered
  refused_high e h = rw (e, h)

  pub stored_is : (id : ℕ) (x : Rule.Gathered) → id ≡ Rule.dsm_id_of hk → Rule.reserved_count hk ≡ false → Rule.too_high s t (Rule.dsm_id_of hk) hk ≡ false
      → x ≡ Rule.stored (Rule.with_block s t id hk) id → x ≡ Rule.gathered s t hk
  unfolding Rule.gathered
  stored_is id x p e h q = rw (e, h, ← p) q

  -- the code's test, in the numbers that it has read
  pub high_is : (id k kept : ℕ) (r : Bool) → id ≡ Rule.dsm_id_of hk → k ≡ Rule.block_id_of hk → kept ≡ Rule.kept_marks s t id hk
      → r ≡ (Rule.marked kept 0 && leb (Rule.total_of (Rule.stored_block s.blocks id 0)) k) → r ≡ Rule.too_high s t (Rule.dsm_id_of hk) hk
  unfolding Rule.too_high
  high_is id k kept r p q w e = rw (← p, ← q, ← w) e
