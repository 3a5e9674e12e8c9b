-- What each read gives, by the first of its checks that fails. Assumes nothing.
use mathlib.Core.Path.{◌≡◌}
use mathlib.Core.Bool.{true, false, ◌&&◌}
use mathlib.Core.List.{List}
use Prim.Native.Nat.{ℕ, ◌-◌}
use lib.Dec.{eqb}
use lib.ListN.{length, get_or}
use borrow.Author.Tests.{eq-eqb, ne_eqb}
use Rattle.authentic_sets.specs.Regions.{auth}
use Rattle.rules.specs.Calls.{set_read, set_read_checks, auth_stamp, auth_set, offer_read, offer_read_checks}
use Rattle.rules.specs.PublicKeys.{key_type, key_bytes}
use Rattle.rules.specs.Kroot.{offer_waits, offer_id, offer_message, offer_signature}
use Rattle.rules.specs.State.{State, set_shaped, set_lent, offer_shaped, offer_lent, prn_valid, pubkeys_length, offer_length, sets_length, arrivals_length}
use Rattle.rules.proofs.Lengths.{set-shaped, message-shaped}
use Rattle.rules.specs.Navdata.{set_issue}
use Rattle.call_reads.specs.Reads.{set_told, offer_told}

-- ---- a set

module _ (s : State) (sets arrivals out : List ℕ) (prn : ℕ) (l : ((length sets ≡ sets_length) × (length arrivals ≡ arrivals_length)) × (length out ≡ 69)) where
  -- right lengths are those that row 1 asks for
  set_fits : (set_shaped (set_lent s sets arrivals) && eqb (length out) 69) ≡ true
  set_fits = rw (set-shaped (set_lent s sets arrivals) l.0.0 l.0.1, l.1)

  pub set_unheard : prn_valid prn ≡ false → set_told 2 out 0 0 ≡ set_read (set_lent s sets arrivals) prn out
  unfolding set_read set_read_checks
  set_unheard p = rw (set_fits, p)

  -- past the checks of lengths and PRN
  module _ (p : prn_valid prn ≡ true) where
    pub set_missing : (t : ℕ) → t ≡ auth_stamp (auth sets arrivals) prn → t ≡ 0 → set_told 16 out 0 0 ≡ set_read (set_lent s sets arrivals) prn out
    unfolding set_read set_read_checks
    set_missing t et z = rw (set_fits, p, ← et, z)

    pub set_found : (x : List ℕ) (i t : ℕ) → x ≡ auth_set (auth sets arrivals) prn → i ≡ set_issue x → t ≡ auth_stamp (auth sets arrivals) prn → (t ≡ 0 → ⊥)
        → set_told 0 x i (t - 1) ≡ set_read (set_lent s sets arrivals) prn out
    unfolding set_read set_read_checks
    set_found x i t ex ei et z = rw (set_fits, p, ← et, ne_eqb t 0 z, ei, ex)

-- ---- what waits

module _ (s : State) (pubkeys offer message signature key : List ℕ)
    (l : ((length pubkeys ≡ pubkeys_length) × (length offer ≡ offer_length)) × ((length message ≡ 45) × ((length signature ≡ 132) × (length key ≡ 67))))
  where
    message_fits : (offer_shaped (offer_lent s pubkeys offer) && (eqb (length message) 45 && (eqb (length signature) 132 && eqb (length key) 67))) ≡ true
    message_fits = rw (message-shaped (offer_lent s pubkeys offer) l.0.0 l.0.1, l.1.0, l.1.1.0, l.1.1.1)

    pub offer_missing : (get_or offer 0 0 ≡ 1 → ⊥) → offer_told 14 message signature key 0 0 ≡ offer_read (offer_lent s pubkeys offer) message signature key
    unfolding offer_read offer_read_checks offer_waits
    offer_missing w = rw (message_fits, ne_eqb (get_or offer 0 0) 1 w)

    pub offer_found : get_or offer 0 0 ≡ 1
        → (m g k : List ℕ) (t : ℕ) → m ≡ offer_message offer → g ≡ offer_signature offer → k ≡ key_bytes pubkeys (offer_id offer) → t ≡ key_type pubkeys (offer_id offer)
        → offer_told 0 m g k (offer_id offer) t ≡ offer_read (offer_lent s pubkeys offer) message signature key
    unfolding offer_read offer_read_checks offer_waits
    offer_found w m g k t em eg ef et = rw (message_fits, eq-eqb (get_or offer 0 0) 1 w, em, eg, ef, et)
