-- The padding, for a message of any number of bytes: the padded message is a whole number of blocks, and at least one. It is the message
-- itself where the number of bytes is a positive multiple of 16, and else the message, a byte 0x80, and zeros.
-- Assumes nothing.
use mathlib.Core.Path.{◌≡◌, refl}
use mathlib.Core.Bool.{Bool, true, false, cond}
use mathlib.Core.List.{List, ◌∷◌, ◌++◌, append_assoc}
use Prim.Native.Nat.{ℕ, suc, ◌-◌, ◌*◌, ◌≤◌, ◌<◌}
use native.Mathlib.Nat.{le_refl}
use native.Mathlib.Omega.{arith}
use borrow.Author.Tests.{eqb-true, eqb-false, eq-eqb, ne_eqb, lt-ltb, le-ltb}
use lib.Dec.{eqb}
use lib.ListN.{length, take, drop, replicate, length-append, length-drop, length-replicate, take-append-drop}
use lib.Seq.{length-take-le}
use Rattle.laws.specs.Lists.{part}
use Rattle.laws.proofs.Splice.{part_first, part_second}
use Rattle.aes.specs.Aes.{xored}
use Rattle.cmac.specs.Cmac as S
use Rattle.cmac.proofs.Counts.{blocks_hold}
use Rattle.cmac.proofs.Steps.{part-all}

-- ---- the last block
length_rest : (m : List ℕ) → length (S.rest m) ≡ length m - 16 * (S.blocks (length m) - 1)
unfolding S.rest
length_rest m = length-drop (16 * (S.blocks (length m) - 1)) m

-- it is complete just where the number of bytes is a positive multiple of 16
rest-complete : (m : List ℕ) (q : ℕ) → length m ≡ 16 * suc q → length (S.rest m) ≡ 16
rest-complete m q e =
    let n = blocks_hold (length m) in
    let h = n.needed (omega arith) in
    omega (arith, length_rest m)

rest_partial : (m : List ℕ) → ((q : ℕ) → length m ≡ 16 * suc q → ⊥) → length (S.rest m) ≡ 16 → ⊥
rest_partial m f e =
    let n = blocks_hold (length m) in
    f (S.blocks (length m) - 1) (omega (arith, length_rest m))

-- ---- the padded message
pub not-padded : (m : List ℕ) (q : ℕ) → length m ≡ 16 * suc q → S.padded_message m ≡ m
unfolding S.padded_message S.padded S.rest
not-padded m q e =
    let b = 16 * (S.blocks (length m) - 1) in
    rw (eq-eqb (length (S.rest m)) 16 (rest-complete m q e)) (take-append-drop b m)

pub is_padded : (m : List ℕ) → ((q : ℕ) → length m ≡ 16 * suc q → ⊥) → S.padded_message m ≡ m ++ (0x80 ∷ replicate (16 * S.blocks (length m) - length m - 1) 0)
unfolding S.padded_message S.padded S.rest
is_padded m f =
    let n = blocks_hold (length m) in
    let b : ℕ = 16 * (S.blocks (length m) - 1) in
    let z : 15 - length (S.rest m) ≡ 16 * S.blocks (length m) - length m - 1 = omega (arith, length_rest m) in
    rw (ne_eqb (length (S.rest m)) 16 (rest_partial m f), z) (rw (← append_assoc (take b m) (drop b m) (0x80 ∷ replicate (16 * S.blocks (length m) - length m - 1) 0), take-append-drop b m))

length-padded : (r : List ℕ) → length r ≤ 16 → length (S.padded r) ≡ 16
unfolding S.padded
length-padded r h = go (eqb (length r) 16) refl
  where
    go : (t : Bool) → eqb (length r) 16 ≡ t → length (cond t r (r ++ (0x80 ∷ replicate (15 - length r) 0))) ≡ 16
    go true e = eqb-true (length r) 16 e
    go false e =
        let f = eqb-false (length r) 16 e in
        simp (length-append, length-replicate) (omega arith)

-- M_n* has at most 16 bytes, after n - 1 blocks
length_last : (m : List ℕ) → length (S.padded (S.rest m)) ≡ 16
length_last m =
    let n = blocks_hold (length m) in
    length-padded (S.rest m) (omega (arith, length_rest m))

length_before : (m : List ℕ) → length (take (16 * (S.blocks (length m) - 1)) m) ≡ 16 * (S.blocks (length m) - 1)
length_before m = length-take-le (16 * (S.blocks (length m) - 1)) m (blocks_hold (length m)).full

pub whole_blocks : (m : List ℕ) → (1 ≤ S.blocks (length m)) × (length (S.padded_message m) ≡ 16 * S.blocks (length m))
unfolding S.padded_message
whole_blocks m =
    let n = blocks_hold (length m) in
    (n.some, simp length-append (omega (arith, length_before m, length_last m)))

-- ---- the blocks that are chained are those of the padded message; the last one with its subkey
pub block_before : (k1 k2 m : List ℕ) (i : ℕ) → 1 ≤ i → i < S.blocks (length m) → S.block k1 k2 m i ≡ part (S.padded_message m) (16 * (i - 1)) 16
unfolding S.block S.padded_message
block_before k1 k2 m i g h =
    let b : ℕ = 16 * (S.blocks (length m) - 1) in
    let l = length_before m in
    rw (lt-ltb i (S.blocks (length m)) h, part_first (take b m) (S.padded (S.rest m)) (16 * (i - 1)) 16 (omega arith), ← part_first (take b m) (drop b m) (16 * (i - 1)) 16 (omega arith), take-append-drop b m)

pub block_n : (k1 k2 m : List ℕ)
    → S.block k1 k2 m (S.blocks (length m)) ≡ xored (cond (eqb (length (S.rest m)) 16) k1 k2) (part (S.padded_message m) (16 * (S.blocks (length m) - 1)) 16)
unfolding S.block S.last_block S.padded_message
block_n k1 k2 m =
    let n : ℕ = S.blocks (length m) in
    let b : ℕ = 16 * (n - 1) in
    let l = length_before m in
    let z : b - length (take b m) ≡ 0 = omega arith in
    rw (le-ltb n n (le_refl n), part_second (take b m) (S.padded (S.rest m)) b 16 (omega arith), z, part-all (S.padded (S.rest m)) 16 (length_last m))
