-- The ranges of a chain's numbers, shown once for a chain in force and asked for by every function over it.
-- `Walks` is what the key chain needs: times and slots stay in range, a key is part of a digest, and a key, its time, α and the padding fill one block.
-- `Sound` adds the layout of a MACK block. proofs/Bounds.antt shows that the chain of accepted parameters is sound.
use Rattle.std.specs.Prelude.{ℕ, ◌+◌, ◌-◌, ◌*◌, ◌%◌, ◌^◌, ◌≤◌, ◌<◌, ◌≡◌, List, ◌∷◌, ◌++◌, length, take, drop, replicate}
use Rattle.sha256.specs.Sha256.{H0, compress, bytes, tail}
use Rattle.sha3.specs.Sha3.{one_block}
use Rattle.rules.specs.Chain.{Held, key_of_slot, chain_hash, hash_bytes}
use Rattle.rules.specs.Kroot.{block_bits, fields_for}
use Rattle.rules.specs.declared.Chain.{Chain}
use Rattle.chain.specs.declared.Way.{Way}

-- the numbers of the key chain are in range
pub record Walks (c : Chain) : Type 0 where
  pub ns_low : 1 ≤ c.ns
  pub ns_high : c.ns ≤ 36
  pub nmack_low : 1 ≤ c.nmack
  pub nmack_high : c.nmack ≤ 3
  pub root_high : c.root < 2 ^ 33
  pub width_low : 12 ≤ c.width
  pub width_high : c.width ≤ 32
  pub width_fits : c.width ≤ hash_bytes c.hf

-- and a MACK block holds its fields and the key
pub record Sound (c : Chain) : Type 0 where
  pub walks : Walks c
  pub ms_high : c.ms ≤ 40
  pub fields_are : c.fields ≡ fields_for c.nmack (8 * c.width) c.ms
  pub block_fits : 8 * c.width + c.ms + 16 ≤ block_bits c.nmack

-- ---- a step hashes one block

-- `block` gives the key's bytes of the chain's hash of a step's message (key, time, α) that stands in 64 bytes with this padding
abbrev pub Hashes : Chain → List ℕ → (List ℕ → List ℕ) → Type 0
Hashes c padding block = (x : List ℕ) → length x ≡ c.width + 10 → take c.width (block (x ++ padding)) ≡ take c.width (chain_hash c.hf x)

-- SHA-256 does
abbrev pub ByCompress : Chain → Type 0
ByCompress c = Hashes c (tail (c.width + 10)) (λ b. bytes (compress H0 b))

-- what follows a message of n bytes in the 64 that a step gives to a sponge; the last byte of the padding is the sponge's own
abbrev pub sponge_tail : ℕ → List ℕ
sponge_tail n = 6 ∷ replicate (63 - n) 0

-- a sponge of this rate does
pub record Sponge (c : Chain) (rate : ℕ) : Type 0 where
  pub rate_low : 136 ≤ rate
  pub rate_high : rate ≤ 144
  pub rate_lanes : rate % 8 ≡ 0
  pub hashes : Hashes c (sponge_tail (c.width + 10)) (one_block rate)

-- the key, no time, α and zeros
abbrev pub laid_out : Chain → List ℕ → List ℕ
laid_out c key = take c.width key ++ replicate 4 0 ++ (c.alpha ++ replicate (54 - c.width) 0)

-- A block of 64 bytes that is ready for a step but for the key, its first bytes, and for the time, the four bytes after them: what follows
-- is α and the padding of the hash.
abbrev pub Framed : Chain → List ℕ → List ℕ → Type 0
Framed c padding b = drop (c.width + 4) b ≡ c.alpha ++ padding

-- A key that was met on the way down from the held one: the first bytes are the key of slot `at`, which is not above the held slot.
pub record Met (c : Chain) (h : Held) (at : ℕ) (key : List ℕ) : Type 0 where
  pub not_above : at ≤ h.slot
  pub key_is : take c.width key ≡ key_of_slot c h at

-- both keys of a way were met on it
pub record OnWay (c : Chain) (h : Held) (w : Way) : Type 0 where
  pub near_is : Met c h w.near w.met
  pub low_is : Met c h w.low w.own
