-- What is shown of the padding, for a message of any number of bytes, and of a truncated code, for any number of bits (02, P1). `laws_of_padding` and
-- `laws_of_truncation` have it as their contracts.
use Rattle.std.specs.Prelude.{ℕ, suc, ◌-◌, ◌*◌, ◌≤◌, ◌<◌, ◌≡◌, cond, List, ◌∷◌, ◌++◌, ltb, eqb, length, replicate}
use Rattle.laws.specs.Lists.{part}
use Rattle.aes.specs.Aes.{xored}
use Rattle.cmac.specs.Cmac.{bit, blocks, rest, padded_message, block, truncated}

pub record Padding : Type 0 where
  -- a whole number of blocks, and at least one
  pub whole_blocks : (m : List ℕ) → (1 ≤ blocks (length m)) × (length (padded_message m) ≡ 16 * blocks (length m))
  -- the message itself where the number of bytes is a positive multiple of 16, and else the message, a byte 0x80, and zeros
  pub not-padded : (m : List ℕ) (q : ℕ) → length m ≡ 16 * suc q → padded_message m ≡ m
  pub is_padded : (m : List ℕ) → ((q : ℕ) → length m ≡ 16 * suc q → ⊥) → padded_message m ≡ m ++ (0x80 ∷ replicate (16 * blocks (length m) - length m - 1) 0)
  -- the blocks that are chained are those of the padded message; the last one with its subkey
  pub block_before : (k1 k2 m : List ℕ) (i : ℕ) → 1 ≤ i → i < blocks (length m) → block k1 k2 m i ≡ part (padded_message m) (16 * (i - 1)) 16
  pub block_n : (k1 k2 m : List ℕ) → block k1 k2 m (blocks (length m)) ≡ xored (cond (eqb (length (rest m)) 16) k1 k2) (part (padded_message m) (16 * (blocks (length m) - 1)) 16)

pub record Truncation : Type 0 where
  pub length-truncated : (n : ℕ) (code : List ℕ) → length (truncated n code) ≡ length code
  -- bit i is the code's for i below n, and 0 from there on
  pub bit-truncated : (n : ℕ) (code : List ℕ) (i : ℕ) → bit (truncated n code) i ≡ cond (ltb i n) (bit code i) 0
