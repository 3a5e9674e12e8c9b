-- The TESLA key chain (01, "Times and slots", "MACK"; 000, 5.4). One definition serves every key width.
use Rattle.std.specs.Prelude.{ℕ, zero, suc, ◌+◌, ◌-◌, Bool, cond, List, ◌++◌, ltb, eqb, take}
use Rattle.laws.specs.Bytes.{be4}
use Rattle.sha256.specs.Sha256.{sha256}
use Rattle.sha3.specs.Sha3.{sha3_224, sha3_256}
use Rattle.rules.specs.Bits.{same}
use Rattle.rules.specs.Times.{gst_of, slot_of, slot_seconds, tag_slot, subframe_at, seconds_of}
use Rattle.rules.specs.declared.Chain.{Chain}

-- the GST_SF of slot m
unfoldable pub slot_time : Chain → ℕ → ℕ
slot_time c m = gst_of (slot_seconds c.ns c.nmack c.root m)

-- the hash that HF names (000, table 10; 02, P6): 0 SHA-256, 1 SHA3-224, 2 SHA3-256; row 8 refuses 3
unfoldable pub chain_hash : ℕ → List ℕ → List ℕ
chain_hash hf message = cond (eqb hf 1) (sha3_224 message) (cond (eqb hf 2) (sha3_256 message) (sha256 message))

-- bytes of its digests
unfoldable pub hash_bytes : ℕ → ℕ
hash_bytes hf = cond (eqb hf 1) 28 32

-- "Key m is the first KS bits of SHA-256(key m+1, GST_SF of slot m, α).", SHA-256 or what HF names in its place (02, P6)
unfoldable pub key_step : Chain → ℕ → List ℕ → List ℕ
key_step c m key = take c.width (chain_hash c.hf (key ++ (be4 (slot_time c m) ++ c.alpha)))

-- n steps down: the key of slot m, from that of slot m + n
unfoldable pub walk : Chain → ℕ → ℕ → List ℕ → List ℕ
walk c zero m key = key
walk c (suc n) m key = walk c n m (key_step c (m + n) key)

-- a proved key and its slot
pub record Held : Type 0 where
  pub slot : ℕ
  pub key : List ℕ

abbrev pub held : ℕ → List ℕ → Held
held slot key = record { slot = slot; key = key }

-- the key of a slot at or below the held one
unfoldable pub key_of_slot : Chain → Held → ℕ → List ℕ
key_of_slot c h m = walk c (h.slot - m) m h.key

-- "a key above its slot must hash down to it, a key at or below must equal it hashed down"
unfoldable pub key_fits : Chain → Held → ℕ → List ℕ → Bool
key_fits c h slot key =
    cond (ltb h.slot slot) (same (walk c (slot - h.slot) h.slot key) h.key) (same key (key_of_slot c h slot))

-- the higher of the two
unfoldable pub higher : Held → ℕ → List ℕ → Held
higher h slot key = cond (ltb h.slot slot) (held slot key) h

-- the slot of the key that a satellite sends in block b of the sub-frame at g
unfoldable pub sent_slot : Chain → ℕ → ℕ → ℕ → ℕ
sent_slot c g b prn = slot_of c.ns c.nmack (subframe_at c.root (seconds_of g)) b prn

-- the slot of the key of a tag of block b that came at g
unfoldable pub key_slot : Chain → ℕ → ℕ → ℕ → ℕ
key_slot c g b adkd = tag_slot c.ns c.nmack c.root g b adkd
