-- A complete DSM: a public key that it adds was proved, and what waits has its key held.
use Prim.Native.Nat.{ℕ, ◌+◌, ◌-◌, ◌≤◌, ◌<◌}
use mathlib.Core.Path.{◌≡◌, sym, ◌∙◌, ap}
use mathlib.Core.Logic.{⊎_elim}
use mathlib.Core.Bool.{true, false, cond}
use mathlib.Core.List.{List, ◌∷◌}
use native.Mathlib.Omega.{arith}
use lib.Dec.{eqb, leb}
use lib.ListN.{length}
use borrow.Author.Tests.{le-leb, eqb-true, eqb-false, not-false}
use Rattle.laws.specs.Refusal.{first_refusal}
use Rattle.laws.proofs.Refusal.{clear, by_test}
use Rattle.laws.proofs.Splice.{either}
use Rattle.laws.proofs.Tests.{both_true}
use Rattle.rules.specs.Bits.{within}
use Rattle.rules.specs.Calls.{Start}
use Rattle.rules.specs.Claim.{proved}
use Rattle.rules.specs.Kroot.{offered, offer_id, pkid_of, kroot_judged, kroot_checks, Offer, signed_message, signature_of}
use Rattle.rules.specs.Log.{Entry, Log}
use Rattle.rules.specs.Pkr.{new_id_of, new_type_of, new_key_of, emergency, pkr_size_bad, tree_proved, pkr_checks, pkr_judged, key_added, Renewed}
use Rattle.rules.specs.PublicKeys.{key_held, key_type, with_key, same_key}
use Rattle.rules.specs.State.{pubkeys_length}
use Rattle.rules.proofs.Bounds.{new_id_bound, new_key_short, new_type_bound, pkid_bound}
use Rattle.rules.proofs.Choices.{by_number}
use Rattle.rules.proofs.Gathering.{DsmCame}
use Rattle.rules.proofs.Invariant.{KeysAre, OfferHeld}
use Rattle.rules.proofs.KeyPlaces.{added_number, added_bytes, other_number, other_bytes}
use Rattle.rules.proofs.Later.{known_later, keys_later}

-- what the checks of a DSM-PKR that is no emergency message say
pub record Renews (root : List ℕ) (d : List ℕ) : Type 0 where
  pub size : pkr_size_bad d ≡ false
  pub tree : tree_proved root d ≡ true
  pub plain : emergency d ≡ false

module _ (o : Start) (keys d : List ℕ) (id : ℕ) (x : Entry) (l : Log) (size : length keys ≡ pubkeys_length) (v : KeysAre o keys l) where
  added_known : (r : Renews o.root d) → 12 ≤ id → DsmCame d id (x ∷ l) → KeysAre o (with_key keys (new_id_of d) (new_type_of d) (new_key_of d)) (x ∷ l)
  unfolding key_held key_type
  added_known r p c =
      record {
        known = λ i h m.
            ⊎_elim
            (λ e. (
            let z = eqb-true i (new_id_of d) e in
            let n = added_number keys (new_id_of d) (new_type_of d) (new_key_of d) size (new_id_bound d) (new_key_short d) in
            let b = added_bytes keys (new_id_of d) (new_type_of d) (new_key_of d) size (new_id_bound d) (new_key_short d) in
            let y : new_type_of d + 1 - 1 ≡ new_type_of d = omega arith in
            proved (record {
              dsm = d;
              dsm_id = id;
              is_pkr = p;
              whole = c.whole;
              blocks = c.blocks;
              size = r.size;
              no_emergency = r.plain;
              tree = r.tree;
              id_is = z;
              type_is = rw (z, n) y;
              bytes_are = rw z b;
            })
            ))
            (λ e. (
            let n = eqb-false i (new_id_of d) e in
            let a = other_number keys (new_id_of d) (new_type_of d) (new_key_of d) size (new_id_bound d) (new_key_short d) i h n in
            let b = other_bytes keys (new_id_of d) (new_type_of d) (new_key_of d) size (new_id_bound d) (new_key_short d) i h n in
            rw (a, b) (known_later (v.known i h (ap (λ (k : ℕ). within 1 4 k) (sym a) ∙ m)))
            ))
            (either (eqb i (new_id_of d)));
      }

  -- the public keys after a complete DSM-PKR
  pub pkr_known : 12 ≤ id → DsmCame d id (x ∷ l) → (pkr_judged keys o.root d).code ≡ 0 → KeysAre o (pkr_judged keys o.root d).pubkeys (x ∷ l)
  unfolding pkr_judged pkr_checks key_added
  pkr_known p c = by_number (λ (j : Renewed). j.code ≡ 0 → KeysAre o j.pubkeys (x ∷ l)) (first_refusal (pkr_checks keys o.root d)) (λ e ok. taken e) (λ h e. keys_later v)
    where
      taken : first_refusal (pkr_checks keys o.root d) ≡ 0 → KeysAre o (cond (emergency d) keys (key_added keys d)) (x ∷ l)
      taken e =
          let k = clear (pkr_checks keys o.root d) tt e in
          by_test (λ (ks : List ℕ). KeysAre o ks (x ∷ l)) (emergency d) (λ _. keys_later v)
          (λ plain.
          by_test (λ (ks : List ℕ). KeysAre o ks (x ∷ l)) (same_key keys (new_id_of d) (new_type_of d) (new_key_of d)) (λ _. keys_later v)
          (λ _. added_known (record { size = k.0; tree = not-false (tree_proved o.root d) k.1.0; plain = plain }) p c))

-- a key that was held is held
added-held : (keys d : List ℕ) (i : ℕ) → length keys ≡ pubkeys_length → i < 16 → new_type_of d < 4 → key_held keys i ≡ true → key_held (with_key keys (new_id_of d) (new_type_of d) (new_key_of d)) i ≡ true
unfolding key_held
added-held keys d i size h t m =
    ⊎_elim
    (λ e. (
    let z = eqb-true i (new_id_of d) e in
    let n = added_number keys (new_id_of d) (new_type_of d) (new_key_of d) size (new_id_bound d) (new_key_short d) in
    rw (z, n) (both_true (leb 1 (new_type_of d + 1)) (leb (new_type_of d + 1) 4) (le-leb 1 (new_type_of d + 1) (omega arith)) (le-leb (new_type_of d + 1) 4 (omega arith)))
    ))
    (λ e. rw (other_number keys (new_id_of d) (new_type_of d) (new_key_of d) size (new_id_bound d) (new_key_short d) i h (eqb-false i (new_id_of d) e)) m)
    (either (eqb i (new_id_of d)))

pub pkr_held : (keys root d : List ℕ) (i : ℕ) → length keys ≡ pubkeys_length → i < 16 → key_held keys i ≡ true → key_held (pkr_judged keys root d).pubkeys i ≡ true
unfolding pkr_judged pkr_checks key_added
pkr_held keys root d i size h m =
    by_number (λ (j : Renewed). key_held j.pubkeys i ≡ true) (first_refusal (pkr_checks keys root d)) taken (λ _. m)
  where
    taken : first_refusal (pkr_checks keys root d) ≡ 0 → key_held (cond (emergency d) keys (key_added keys d)) i ≡ true
    taken e =
        let k = clear (pkr_checks keys root d) tt e in
        by_test (λ (ks : List ℕ). key_held ks i ≡ true) (emergency d) (λ _. m)
        (λ plain.
        by_test (λ (ks : List ℕ). key_held ks i ≡ true) (same_key keys (new_id_of d) (new_type_of d) (new_key_of d)) (λ _. m)
        (λ _. added-held keys d i size h (new_type_bound d k.0 plain) m))

-- ---- a complete DSM-KROOT: its key is held

offered_id : (i : ℕ) (m g : List ℕ) → i < 16 → offer_id (offered i m g) ≡ i
unfolding offer_id offered
offered_id i m g h = omega arith

pub kroot_held : (keys : List ℕ) (config : List ℕ) (offer : List ℕ) (header : ℕ) (d : List ℕ) → OfferHeld keys offer → OfferHeld keys (kroot_judged keys config offer header d).offer
unfolding kroot_judged kroot_checks
kroot_held keys config offer header d old =
    by_number (λ (j : Offer). OfferHeld keys j.offer) (first_refusal (kroot_checks keys config d))
    (λ e _. (
    let k = clear (kroot_checks keys config d) tt e in
    rw (offered_id (pkid_of d) (signed_message header d) (signature_of d (key_type keys (pkid_of d))) (pkid_bound d)) (not-false (key_held keys (pkid_of d)) k.0)
    ))
    (λ _. old)
