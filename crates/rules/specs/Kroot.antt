-- DSM-KROOT: its fields, checks and signed message (01, "DSM-KROOT fields stand as in 000 table 7"; 000, 3.3 and 5.1).
-- The contents of a message are its bytes after the NMA header, zeros after a short root: 44 bytes. A DSM has the same bytes from its
-- byte 1 on, so one set of readers serves the DSM, the message that waits and the chain in force.
use Rattle.std.specs.Prelude.{ℕ, ◌+◌, ◌-◌, ◌*◌, ◌/◌, ◌%◌, Bool, cond, not, ◌&&◌, ◌||◌, List, [], ◌∷◌, ◌++◌, leb, ltb, eqb, length, get_or, replicate}
use Rattle.laws.specs.Lists.{part}
use Rattle.laws.specs.Refusal.{Check, refuse, first_refusal, unless, neb}
use Rattle.rules.specs.Chain.{hash_bytes}
use Rattle.rules.specs.Bits.{bits, filled, any_of}
use Rattle.rules.specs.PublicKeys.{key_held, key_type, signature_length}
use Rattle.rules.specs.State.{maclt_of, offer_length, contents_length}
use Rattle.rules.specs.Times.{hour_seconds}
use Rattle.rules.specs.declared.Chain.{Chain}

-- ---- fields of the contents, 000 table 7 less its first byte

unfoldable pub cidkr_of : List ℕ → ℕ
cidkr_of c = bits c 0 2

unfoldable pub nmack_of : List ℕ → ℕ
nmack_of c = bits c 2 2

unfoldable pub hf_of : List ℕ → ℕ
hf_of c = bits c 4 2

unfoldable pub mf_of : List ℕ → ℕ
mf_of c = bits c 6 2

unfoldable pub ks_of : List ℕ → ℕ
ks_of c = bits c 8 4

unfoldable pub ms_of : List ℕ → ℕ
ms_of c = bits c 12 4

unfoldable pub maclt_field_of : List ℕ → ℕ
maclt_field_of c = bits c 16 8

unfoldable pub mo_of : List ℕ → ℕ
mo_of c = bits c 26 2

unfoldable pub root_week_of : List ℕ → ℕ
root_week_of c = bits c 28 12

unfoldable pub root_hour_of : List ℕ → ℕ
root_hour_of c = bits c 40 8

unfoldable pub alpha_of : List ℕ → List ℕ
alpha_of c = part c 6 6

-- bytes of a key by its KS code (000, table 12) and bits of a tag by its MS code (table 13); a code past the table is refused by 8
unfoldable pub key_width : ℕ → ℕ
key_width code = get_or (12 ∷ 13 ∷ 14 ∷ 15 ∷ 16 ∷ 20 ∷ 24 ∷ 28 ∷ 32 ∷ []) code 32

unfoldable pub tag_width : ℕ → ℕ
tag_width code = get_or (10 ∷ 12 ∷ 14 ∷ 16 ∷ 18 ∷ 20 ∷ 24 ∷ 28 ∷ 32 ∷ 40 ∷ []) code 40

unfoldable pub kroot_of : List ℕ → List ℕ
kroot_of c = part c 12 (key_width (ks_of c))

-- seconds of the root's sub-frame 0
unfoldable pub root_seconds_of : List ℕ → ℕ
root_seconds_of c = hour_seconds (root_week_of c) (root_hour_of c)

-- "NMACK blocks of 60/NMACK bytes": bits of a block; a reserved NMACK counts as 1
unfoldable pub block_bits : ℕ → ℕ
block_bits nmack = cond (eqb nmack 3) 160 (cond (eqb nmack 2) 240 480)

-- "floor((480/NMACK − KS)/(MS + 16)) fields"
unfoldable pub fields_for : ℕ → ℕ → ℕ → ℕ
fields_for nmack ks ms = (block_bits nmack - ks) / (ms + 16)

-- a key of this many bytes is an AES key: "KS must then be 128, 192 or 256 bits" (02, P1)
unfoldable pub aes_width : ℕ → Bool
aes_width width = eqb width 16 || (eqb width 24 || eqb width 32)

-- MF 0 is HMAC-SHA-256, MF 1 CMAC-AES (000, table 11): "any other KS with MF 1 is answered 8"; 2 and 3 are reserved (B1a)
unfoldable pub mf_bad : List ℕ → Bool
mf_bad c = ltb 1 (mf_of c) || (eqb (mf_of c) 1 && not (aes_width (key_width (ks_of c))))

-- HF 0, 1 and 2 name a hash (000, table 10), 3 none; a key is part of a digest: "KS 256 with HF 1 is answered 8." (02, P6)
unfoldable pub hf_bad : List ℕ → Bool
hf_bad c = ltb 2 (hf_of c) || ltb (hash_bytes (hf_of c)) (key_width (ks_of c))

-- row 8 of the table, its HF and MF as above: "HF, MF or MO not 0; NMACK 0; KS code above 8, MS code above 9; other MACLT; block shorter than KS + MS + 16; hour
-- above 167; week 0 hour 0"
unfoldable pub parameters_bad : List ℕ → List ℕ → Bool
parameters_bad config c =
    any_of
    (hf_bad c
    ∷ mf_bad c
    ∷ neb (mo_of c) 0
    ∷ eqb (nmack_of c) 0
    ∷ ltb 8 (ks_of c)
    ∷ ltb 9 (ms_of c)
    ∷ neb (maclt_field_of c) (maclt_of config)
    ∷ ltb (block_bits (nmack_of c)) (8 * key_width (ks_of c) + tag_width (ms_of c) + 16)
    ∷ ltb 167 (root_hour_of c)
    ∷ (eqb (root_week_of c) 0 && eqb (root_hour_of c) 0)
    ∷ [])

-- ---- a complete DSM-KROOT

-- its key ID (000, 3.3.2), and its bytes as contents
unfoldable pub pkid_of : List ℕ → ℕ
pkid_of d = bits d 4 4

unfoldable pub contents_of : List ℕ → List ℕ
contents_of d = part d 1 contents_length

-- "NB is the least that fits": blocks of 13 bytes for n bytes, 7 at the least
unfoldable pub least_blocks : ℕ → ℕ
least_blocks n = cond (leb n 91) 7 ((n + 12) / 13)

-- "NB is the least that fits 13 + KS/8 + signature."
unfoldable pub kroot_blocks : ℕ → ℕ → ℕ
kroot_blocks width type = least_blocks (13 + width + signature_length type)

-- "complete KROOT 7, 8, 6"
unfoldable pub kroot_checks : List ℕ → List ℕ → List ℕ → List Check
kroot_checks pubkeys config d =
    refuse (not (key_held pubkeys (pkid_of d))) 7
    ∷ refuse (parameters_bad config (contents_of d)) 8
    ∷ refuse (neb (length d) (13 * kroot_blocks (key_width (ks_of (contents_of d))) (key_type pubkeys (pkid_of d)))) 6
    ∷ []

-- "The signed message is the NMA header, then the DSM from byte 1 through KROOT.", in 45 bytes
unfoldable pub signed_message : ℕ → List ℕ → List ℕ
signed_message header d = filled 45 (header ∷ part d 1 (12 + key_width (ks_of (contents_of d))))

-- the signature after it, in 132 bytes; "Padding contents are not examined."
unfoldable pub signature_of : List ℕ → ℕ → List ℕ
signature_of d type = filled 132 (part d (13 + key_width (ks_of (contents_of d))) (signature_length type))

-- ---- the message that waits: 1, key ID, message 45, signature 132

unfoldable pub offered : ℕ → List ℕ → List ℕ → List ℕ
offered id message signature = 1 ∷ id ∷ (message ++ signature)

unfoldable pub offer_waits : List ℕ → Bool
offer_waits offer = eqb (get_or offer 0 0) 1

unfoldable pub offer_id : List ℕ → ℕ
offer_id offer = get_or offer 1 0 % 16

unfoldable pub offer_message : List ℕ → List ℕ
offer_message offer = part offer 2 45

unfoldable pub offer_signature : List ℕ → List ℕ
offer_signature offer = part offer 47 132

unfoldable pub no_offer : List ℕ
no_offer = replicate offer_length 0

-- what a complete DSM-KROOT leaves: "It waits for a verdict; a newer one replaces it."
pub record Offer : Type 0 where
  pub code : ℕ
  pub offer : List ℕ

unfoldable pub kroot_judged : List ℕ → List ℕ → List ℕ → ℕ → List ℕ → Offer
kroot_judged pubkeys config offer header d =
    let code = first_refusal (kroot_checks pubkeys config d) in
    unless code
    (record { code = 0; offer = offered (pkid_of d) (signed_message header d) (signature_of d (key_type pubkeys (pkid_of d))) })
    (record { code = code; offer = offer })

-- ---- the chain

-- the chain's numbers, as the code holds them
unfoldable pub chain_with : ℕ → List ℕ → Chain
chain_with ns c =
    record {
      ns = ns;
      nmack = nmack_of c;
      root = root_seconds_of c;
      alpha = alpha_of c;
      hf = hf_of c;
      mf = mf_of c;
      width = key_width (ks_of c);
      ms = tag_width (ms_of c);
      fields = fields_for (nmack_of c) (8 * key_width (ks_of c)) (tag_width (ms_of c));
    }

-- the contents that were put in force last
unfoldable pub chain_contents : List ℕ → List ℕ
chain_contents chain = part chain 1 contents_length

-- a chain is in force; contents that no DSM-KROOT brings count as none
unfoldable pub in_force : List ℕ → List ℕ → Bool
in_force config chain = eqb (get_or chain 0 0) 1 && not (parameters_bad config (chain_contents chain))

-- a root was put in force since the start
unfoldable pub ever_forced : List ℕ → Bool
ever_forced chain = neb (get_or chain 0 0) 0
