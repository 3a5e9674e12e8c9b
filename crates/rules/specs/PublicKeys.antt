-- The public keys held, by key ID 0 to 15 (01, "HKROOT" and "Verdicts"): a place of 68 bytes each, the type plus 1 and the key's bytes,
-- zeros after a short key. The first byte is 0 where none is held.
use Rattle.std.specs.Prelude.{ℕ, zero, suc, ◌+◌, ◌-◌, ◌*◌, Bool, false, not, ◌&&◌, ◌||◌, List, [], ◌∷◌, eqb, get_or, replicate}
use Rattle.laws.specs.Lists.{part, splice}
use Rattle.rules.specs.Bits.{filled, same, within}

-- "a key of 29, 33, 49 or 67 bytes (types 0 to 3)"
unfoldable pub key_length : ℕ → ℕ
key_length type = get_or (29 ∷ 33 ∷ 49 ∷ 67 ∷ []) type 67

-- "Signatures have 56, 64, 96 or 132 bytes for key types 0 to 3."
unfoldable pub signature_length : ℕ → ℕ
signature_length type = get_or (56 ∷ 64 ∷ 96 ∷ 132 ∷ []) type 132

-- the key with this ID is held
unfoldable pub key_held : List ℕ → ℕ → Bool
key_held keys id = within 1 4 (get_or keys (id * 68) 0)

unfoldable pub key_type : List ℕ → ℕ → ℕ
key_type keys id = get_or keys (id * 68) 0 - 1

-- the key's 67 bytes, zeros after a short one
unfoldable pub key_bytes : List ℕ → ℕ → List ℕ
key_bytes keys id = part keys (id * 68 + 1) 67

-- one of the n IDs from `id` on is held
unfoldable pub held_among : List ℕ → ℕ → ℕ → Bool
held_among keys id zero = false
held_among keys id (suc n) = held_among keys id n || key_held keys (id + n)

-- "an ID above all held": neither it nor a higher one is held
unfoldable pub above_all : List ℕ → ℕ → Bool
above_all keys id = not (held_among keys id (16 - id))

-- the same key is held: ID, type and bytes (A36)
unfoldable pub same_key : List ℕ → ℕ → ℕ → List ℕ → Bool
same_key keys id type key = key_held keys id && (eqb (key_type keys id) type && same (key_bytes keys id) (filled 67 key))

unfoldable pub with_key : List ℕ → ℕ → ℕ → List ℕ → List ℕ
with_key keys id type key = splice keys (id * 68) ((type + 1) ∷ filled 67 key)

-- "drops keys of lower ID"
unfoldable pub without_lower : List ℕ → ℕ → List ℕ
without_lower keys id = splice keys 0 (replicate (id * 68) 0)
