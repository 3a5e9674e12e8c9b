-- The hash that HF names: how long its digests are, and by which block function a message of one block is hashed.
-- Assumes nothing.
use mathlib.Core.Path.{◌≡◌, refl, sym, ap, ◌∙◌}
use mathlib.Core.Bool.{Bool, true, false, cond}
use mathlib.Core.List.{List, ◌++◌}
use Prim.Native.Nat.{ℕ, ◌+◌, ◌≤◌}
use native.Mathlib.Omega.{arith}
use lib.Dec.{eqb}
use lib.ListN.{length, take}
use lib.Seq.{length-take-le}
use borrow.Author.Tests.{eq-eqb, ne_eqb}
use Rattle.sha256.specs.Sha256 as H
use Rattle.sha256.proofs.Continued.{one_block, length-sha256}
use Rattle.sha3.specs.Sha3 as S3
use Rattle.sha3.proofs.Short.{short_224, short_256, length_sha3_224, length_sha3_256}
use Rattle.rules.specs.Chain as S
use Rattle.rules.specs.declared.Chain.{Chain}
use Rattle.chain.specs.Sound.{ByCompress, Sponge, sponge_tail}

-- ---- lengths

pub hash_bound : (hf : ℕ) → S.hash_bytes hf ≤ 32
unfolding S.hash_bytes
hash_bound hf = go (eqb hf 1)
  where
    go : (a : Bool) → cond a 28 32 ≤ 32
    go true = omega arith
    go false = omega arith

pub length_hash : (hf : ℕ) (x : List ℕ) → length (S.chain_hash hf x) ≡ S.hash_bytes hf
unfolding S.chain_hash S.hash_bytes
length_hash hf x = go (eqb hf 1) (eqb hf 2)
  where
    go : (a b : Bool) → length (cond a (S3.sha3_224 x) (cond b (S3.sha3_256 x) (H.sha256 x))) ≡ cond a 28 32
    go true b = length_sha3_224 x
    go false true = length_sha3_256 x
    go false false = length-sha256 x

-- a key that is part of a digest has at most 32 bytes
pub key_short : (c : Chain) → c.width ≤ S.hash_bytes c.hf → c.width ≤ 32
key_short c h = let b = hash_bound c.hf in omega arith

pub length-key : (c : Chain) (key : List ℕ) → c.width ≤ S.hash_bytes c.hf → length key ≡ 32 → length (take c.width key) ≡ c.width
length-key c key h e = let s = key_short c h in length-take-le c.width key (omega arith)

-- ---- the block function

-- neither 1 nor 2: SHA-256
pub by_compress : (c : Chain) → (c.hf ≡ 1 → ⊥) → (c.hf ≡ 2 → ⊥) → c.width ≤ S.hash_bytes c.hf → ByCompress c
unfolding S.chain_hash H.pad
by_compress c e f h x n =
    let s = key_short c h in
    ap (take c.width)
    (sym
    (rw (ne_eqb c.hf 1 e, ne_eqb c.hf 2 f) (one_block x (omega arith))
    ∙ ap (λ (j : ℕ). H.bytes (H.compress H.H0 (x ++ H.tail j))) n))

-- 1: SHA3-224
pub sponge_224 : (c : Chain) → c.hf ≡ 1 → c.width ≤ S.hash_bytes c.hf → Sponge c 144
unfolding S.chain_hash S.hash_bytes
sponge_224 c e h = record { rate_low = omega arith; rate_high = omega arith; rate_lanes = refl; hashes = hashed }
  where
    hashed : (x : List ℕ) → length x ≡ c.width + 10 → take c.width (S3.one_block 144 (x ++ sponge_tail (c.width + 10))) ≡ take c.width (S.chain_hash c.hf x)
    hashed x n =
        let s = key_short c h in
        let w : c.width ≤ 28 = rw (eq-eqb c.hf 1 e) at h in
        rw (eq-eqb c.hf 1 e, sym n) (short_224 x c.width (omega arith) w)

-- 2: SHA3-256
pub sponge_256 : (c : Chain) → c.hf ≡ 2 → c.width ≤ S.hash_bytes c.hf → Sponge c 136
unfolding S.chain_hash
sponge_256 c e h = record { rate_low = omega arith; rate_high = omega arith; rate_lanes = refl; hashes = hashed }
  where
    hashed : (x : List ℕ) → length x ≡ c.width + 10 → take c.width (S3.one_block 136 (x ++ sponge_tail (c.width + 10))) ≡ take c.width (S.chain_hash c.hf x)
    hashed x n =
        let s = key_short c h in
        rw (e, sym n) (short_256 x c.width (omega arith) s)
