-- DSM-PKR: sizes, leaf, tree and effect (01, "HKROOT"; 000, 3.4, 5.2 and 5.3).
-- Bytes: NB and message ID, four nodes of 32, key type and key ID (byte 129), the key.
use Rattle.std.specs.Prelude.{ℕ, zero, suc, ◌+◌, ◌*◌, ◌/◌, ◌%◌, ◌^◌, Bool, false, cond, not, ◌&&◌, ◌||◌, List, [], ◌∷◌, ◌++◌, ltb, eqb, length, drop}
use Rattle.laws.specs.Lists.{part}
use Rattle.laws.specs.Refusal.{Check, refuse, first_refusal, unless, neb}
use Rattle.sha256.specs.Sha256.{sha256}
use Rattle.rules.specs.Bits.{bits, same}
use Rattle.rules.specs.PublicKeys.{key_length, same_key, above_all, with_key}
use Rattle.rules.specs.Kroot.{least_blocks}

unfoldable pub message_id_of : List ℕ → ℕ
message_id_of d = bits d 4 4

-- type and ID of the new key; a message of 7 to 9 blocks has no such byte and is read as type 0 (A33)
unfoldable pub new_type_of : List ℕ → ℕ
new_type_of d = bits d 1032 4

unfoldable pub new_id_of : List ℕ → ℕ
new_id_of d = bits d 1036 4

unfoldable pub new_key_of : List ℕ → List ℕ
new_key_of d = part d 130 (key_length (new_type_of d))

-- "type 4 (emergency)"
unfoldable pub emergency : List ℕ → Bool
emergency d = eqb (new_type_of d) 4

-- "130 bytes, then a key .., NB the least that fits; type 4 (emergency) fills at least 11 blocks and has key ID 0."; "PKR type above 4"
unfoldable pub pkr_size_bad : List ℕ → Bool
pkr_size_bad d =
    cond (emergency d)
    (ltb (length d) 143 || neb (new_id_of d) 0)
    (ltb 4 (new_type_of d) || neb (length d) (13 * least_blocks (130 + key_length (new_type_of d))))

-- "The leaf is type, ID and key." An emergency message's key runs to the last byte (000, 3.4.6).
unfoldable pub leaf_of : List ℕ → List ℕ
leaf_of d = cond (emergency d) (drop 129 d) (part d 129 (1 + key_length (new_type_of d)))

unfoldable pub node_of : List ℕ → ℕ → List ℕ
node_of d j = part d (1 + 32 * j) 32

-- "joined with each of the four nodes in turn, left or right by the bits of the message ID, lowest first (a 1 puts the node left), and
-- hashed again each time"
unfoldable pub joined : ℕ → ℕ → List ℕ → List ℕ → List ℕ
joined mid j node h = cond (eqb (mid / 2 ^ j % 2) 1) (sha256 (node ++ h)) (sha256 (h ++ node))

-- SHA-256 of the leaf, joined with the first n nodes
unfoldable pub climbed : List ℕ → ℕ → List ℕ
climbed d zero = sha256 (leaf_of d)
climbed d (suc j) = joined (message_id_of d) j (node_of d j) (climbed d j)

-- "must give the installed root"
unfoldable pub tree_proved : List ℕ → List ℕ → Bool
tree_proved root d = same (climbed d 4) root

-- the same key, or one "with an ID above all held"
unfoldable pub key_welcome : List ℕ → List ℕ → Bool
key_welcome keys d = same_key keys (new_id_of d) (new_type_of d) (new_key_of d) || above_all keys (new_id_of d)

-- "PKR 6, 10, 9"
unfoldable pub pkr_checks : List ℕ → List ℕ → List ℕ → List Check
pkr_checks keys root d =
    refuse (pkr_size_bad d) 6
    ∷ refuse (not (tree_proved root d)) 10
    ∷ refuse (not (emergency d) && not (key_welcome keys d)) 9
    ∷ []

-- what a complete DSM-PKR leaves: the public keys, and whether it stops the core
pub record Renewed : Type 0 where
  pub code : ℕ
  pub pubkeys : List ℕ
  pub stops : Bool

-- "A proved key with an ID above all held is added; the same key again changes nothing."
unfoldable pub key_added : List ℕ → List ℕ → List ℕ
key_added keys d =
    cond (same_key keys (new_id_of d) (new_type_of d) (new_key_of d)) keys (with_key keys (new_id_of d) (new_type_of d) (new_key_of d))

unfoldable pub pkr_judged : List ℕ → List ℕ → List ℕ → Renewed
pkr_judged keys root d =
    let code = first_refusal (pkr_checks keys root d) in
    unless code
    (record { code = 0; pubkeys = cond (emergency d) keys (key_added keys d); stops = emergency d })
    (record { code = code; pubkeys = keys; stops = false })
