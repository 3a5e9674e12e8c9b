-- HMAC with SHA-256, after FIPS 198-1, section 4, on lists of bytes. The main equation is `hmac`.
-- `key_of` and `hmac_with` say what is kept of a key, and how a message is authenticated with it: hmac_with (key_of k) m is hmac k m
-- for every key and message (proofs/Kept.antt).
use Rattle.std.specs.Prelude.{ℕ, ◌-◌, cond, List, ◌++◌, map, ltb, length, replicate}
use Rattle.std.specs.Int.Bits.{bit_xor}
use Rattle.sha256.specs.Sha256.{sha256, compress, finished, H0}
use Rattle.hmac.specs.declared.HmacKey.{HmacKey}

-- b and zeros, to a block of 64 bytes
unfoldable pub zero_padded : List ℕ → List ℕ
zero_padded b = b ++ replicate (64 - length b) 0

-- steps 1 to 3: the key as a block; a key longer than a block is hashed first
unfoldable pub key_block : List ℕ → List ℕ
key_block k = zero_padded (cond (ltb 64 (length k)) (sha256 k) k)

-- each byte of b, exclusive or x
unfoldable pub xored : List ℕ → ℕ → List ℕ
xored b x = map (λ y. bit_xor y x) b

-- step 4: the key's block with ipad
unfoldable pub inner_pad : List ℕ → List ℕ
inner_pad k = xored (key_block k) 0x36

-- step 7: the key's block with opad
unfoldable pub outer_pad : List ℕ → List ℕ
outer_pad k = xored (key_block k) 0x5c

-- steps 4 to 9: the code of the message m under the key k, 32 bytes
unfoldable pub hmac : List ℕ → List ℕ → List ℕ
hmac k m = sha256 (outer_pad k ++ sha256 (inner_pad k ++ m))

-- what is kept of a key: the hash values after its two pads
unfoldable pub key_of : List ℕ → HmacKey
key_of k = record { inner = compress H0 (inner_pad k); outer = compress H0 (outer_pad k) }

-- the code of the message m under a kept key
unfoldable pub hmac_with : HmacKey → List ℕ → List ℕ
hmac_with k m = finished k.outer 1 (finished k.inner 1 m)
