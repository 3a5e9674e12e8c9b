-- The places of public keys: what is read after a key is added, and after keys of lower ID are dropped. Assumes nothing.
use Prim.Native.Nat.{ℕ, suc, ◌+◌, ◌*◌, ◌≤◌, ◌<◌}
use mathlib.Core.Path.{◌≡◌, sym, ◌∙◌, ap}
use mathlib.Core.Logic.{◌≢◌, ◌⊎◌, inl, inr, ⊎_elim}
use mathlib.Core.List.{List, ◌∷◌}
use native.Mathlib.Omega.{arith}
use lib.ListN.{length, get_or, replicate, length-replicate}
use lib.Seq.{ext_get_or}
use Rattle.laws.specs.Lists.{part, splice}
use Rattle.laws.proofs.Splice.{get_or_splice_in, get_or_splice_past, part_splice_past, length_splice, length_part, get_d_part, below?}
use Rattle.rules.specs.Bits.{filled}
use Rattle.rules.specs.PublicKeys.{key_bytes, with_key, without_lower}
use Rattle.rules.specs.State.{pubkeys_length}
use Rattle.rules.proofs.Parts.{get_or-zeros, length-filled, get_d_beside, part_beside}

-- the number that stands before a key: its type plus 1, 0 where none is held
abbrev pub key_number : List ℕ → ℕ → ℕ
key_number keys id = get_or keys (id * 68) 0

apart : (id other : ℕ) → other ≢ id → (other < id) ⊎ (id < other)
apart id other h = ⊎_elim (λ l. inl l) (λ g. inr (bigger g)) (below? other id)
  where
    bigger : id ≤ other → id < other
    bigger g = omega (arith, g, h)

-- ---- a key is added

module _ (keys : List ℕ) (id type : ℕ) (key : List ℕ) (size : length keys ≡ pubkeys_length) (in_range : id < 16) (short : length key ≤ 67) where
  abbrev place : List ℕ
  place = (type + 1) ∷ filled 67 key

  place_length : length place ≡ 68
  place_length = ap suc (length-filled 67 key short)

  fits : id * 68 + length place ≤ length keys
  fits = omega (arith, place_length)

  pub added_number : key_number (with_key keys id type key) id ≡ type + 1
  unfolding with_key
  added_number =
      let z : id * 68 + 0 ≡ id * 68 = omega arith in
      ap (λ (k : ℕ). get_or (splice keys (id * 68) place) k 0) (sym z) ∙ get_or_splice_in keys (id * 68) place fits 0 (omega (arith, place_length))

  pub added_bytes : key_bytes (with_key keys id type key) id ≡ filled 67 key
  unfolding with_key key_bytes
  added_bytes =
      let n = length-filled 67 key short in
      let m : length (part (splice keys (id * 68) place) (id * 68 + 1) 67) ≡ 67 = length_part _ (id * 68 + 1) 67 (omega (arith, length_splice keys (id * 68) place fits)) in
      ext_get_or 0 _ _ (m ∙ sym n)
      (λ i h.
      let e : id * 68 + 1 + i ≡ id * 68 + suc i = omega arith in
      get_d_part (splice keys (id * 68) place) (id * 68 + 1) 67 i (omega arith)
      ∙ ap (λ (k : ℕ). get_or (splice keys (id * 68) place) k 0) e
      ∙ get_or_splice_in keys (id * 68) place fits (suc i) (omega (arith, place_length)))

  pub other_number : (i : ℕ) → i < 16 → i ≢ id → key_number (with_key keys id type key) i ≡ key_number keys i
  unfolding with_key
  other_number i h n =
      get_d_beside keys (id * 68) place fits (i * 68) (⊎_elim (λ l. inl (omega arith)) (λ l. inr (omega (arith, place_length))) (apart id i n))

  pub other_bytes : (i : ℕ) → i < 16 → i ≢ id → key_bytes (with_key keys id type key) i ≡ key_bytes keys i
  unfolding with_key key_bytes
  other_bytes i h n =
      part_beside keys (id * 68) place fits (i * 68 + 1) 67 (omega arith)
      (⊎_elim (λ l. inl (omega arith)) (λ l. inr (omega (arith, place_length))) (apart id i n))

-- ---- keys of lower ID are dropped

module _ (keys : List ℕ) (id : ℕ) (size : length keys ≡ pubkeys_length) (in_range : id < 16) where
  zeros_length : length {A = ℕ} (replicate (id * 68) 0) ≡ id * 68
  zeros_length = length-replicate {A = ℕ} (id * 68) 0

  pub lower_number : (i : ℕ) → i < id → key_number (without_lower keys id) i ≡ 0
  unfolding without_lower
  lower_number i h =
      let n = zeros_length in
      let e : 0 + i * 68 ≡ i * 68 = omega arith in
      ap (λ (k : ℕ). get_or (splice keys 0 (replicate (id * 68) 0)) k 0) (sym e)
      ∙ get_or_splice_in keys 0 (replicate (id * 68) 0) (omega arith) (i * 68) (omega arith)
      ∙ get_or-zeros (id * 68) (i * 68)

  pub upper_number : (i : ℕ) → id ≤ i → key_number (without_lower keys id) i ≡ key_number keys i
  unfolding without_lower
  upper_number i h = let n = zeros_length in get_or_splice_past keys 0 (replicate (id * 68) 0) (omega arith) (i * 68) (omega arith)

  pub upper_bytes : (i : ℕ) → i < 16 → id ≤ i → key_bytes (without_lower keys id) i ≡ key_bytes keys i
  unfolding without_lower key_bytes
  upper_bytes i k h =
      let n = zeros_length in
      part_splice_past keys 0 (replicate (id * 68) 0) (omega arith) (i * 68 + 1) 67 (omega arith) (omega arith)
