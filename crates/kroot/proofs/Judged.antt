-- A complete DSM-KROOT by its checks, and the bytes of what then waits.
-- Assumes nothing.
use mathlib.Core.Path.{◌≡◌, refl, sym, ap, ◌∙◌}
use mathlib.Core.Bool.{true, false}
use mathlib.Core.List.{List, [], ◌∷◌, ◌++◌, append_assoc}
use Prim.Native.Nat.{ℕ, suc, ◌+◌, ◌-◌, ◌*◌, ◌≤◌}
use native.Mathlib.Omega.{arith}
use lib.ListN.{length, set, replicate, length-append, length-replicate}
use borrow.Author.Tests.{eq-eqb, ne_eqb}
use Rattle.laws.specs.Lists.{splice}
use Rattle.laws.proofs.Splice.{splice_two, splice-append, splice_whole, length_splice, splice_one, splice-after}
use Rattle.rules.specs.Bits.{filled}
use Rattle.rules.specs.PublicKeys.{key_held, key_type}
use Rattle.rules.specs.Kroot as S
use Rattle.rules.specs.State.{offer_length}

module _ (pubkeys config offer : List ℕ) (header : ℕ) (d : List ℕ) where
  abbrev judged : S.Offer
  judged = S.kroot_judged pubkeys config offer header d

  pub no_key : key_held pubkeys (S.pkid_of d) ≡ false → (7 ≡ judged.code) × (offer ≡ judged.offer)
  unfolding S.kroot_judged S.kroot_checks
  no_key h = rw h (refl, refl)

  pub bad_parameters : key_held pubkeys (S.pkid_of d) ≡ true → S.parameters_bad config (S.contents_of d) ≡ true → (8 ≡ judged.code) × (offer ≡ judged.offer)
  unfolding S.kroot_judged S.kroot_checks
  bad_parameters h k = rw (h, k) (refl, refl)

  module _ (held : key_held pubkeys (S.pkid_of d) ≡ true) (good : S.parameters_bad config (S.contents_of d) ≡ false) where
    pub wrong_size : (length d ≡ 13 * S.kroot_blocks (S.key_width (S.ks_of (S.contents_of d))) (key_type pubkeys (S.pkid_of d)) → ⊥) → (6 ≡ judged.code) × (offer ≡ judged.offer)
    unfolding S.kroot_judged S.kroot_checks
    wrong_size n = rw (held, good, ne_eqb (length d) (13 * S.kroot_blocks (S.key_width (S.ks_of (S.contents_of d))) (key_type pubkeys (S.pkid_of d))) n) (refl, refl)

    pub taken : (o : List ℕ) → length d ≡ 13 * S.kroot_blocks (S.key_width (S.ks_of (S.contents_of d))) (key_type pubkeys (S.pkid_of d))
        → o ≡ S.offered (S.pkid_of d) (S.signed_message header d) (S.signature_of d (key_type pubkeys (S.pkid_of d)))
        → (0 ≡ judged.code) × (o ≡ judged.offer)
    unfolding S.kroot_judged S.kroot_checks
    taken o n e = rw (held, good, eq-eqb (length d) (13 * S.kroot_blocks (S.key_width (S.ks_of (S.contents_of d))) (key_type pubkeys (S.pkid_of d))) n) (refl, e)

-- what waits, written part by part
module _ (offer : List ℕ) (id header w n : ℕ) (p s : List ℕ) (lo : length offer ≡ offer_length) (lp : length p ≡ 12 + w) (ls : length s ≡ n) (hw : w ≤ 32) (hn : n ≤ 132) where
  abbrev head : List ℕ
  head = 1 ∷ id ∷ header ∷ []

  abbrev m : List ℕ
  m = (head ++ p) ++ replicate (32 - w) 0

  abbrev whole : List ℕ
  whole = (m ++ s) ++ replicate (132 - n) 0

  pub first_three : set (set (set offer 0 1) 1 id) 2 header ≡ splice offer 0 head
  first_three =
      let two : List ℕ = 1 ∷ id ∷ [] in
      rw (splice_two offer 0 1 id (omega arith))
      (splice_one (splice offer 0 two) 2 header (omega (arith, length_splice offer 0 two (omega arith))) ∙ splice-append offer 0 two (header ∷ []) (omega arith))

  length_m : length m ≡ 47
  length_m = simp (length-append, length-replicate) (omega arith)

  length_whole : length whole ≡ offer_length
  length_whole = simp (length-append, length-replicate) (omega arith)

  whole_is : whole ≡ S.offered id (filled 45 (header ∷ p)) (filled 132 s)
  unfolding S.offered filled
  whole_is =
      let e : 45 - suc (length p) ≡ 32 - w = omega arith in
      simp (e, ls, append_assoc)
      (ap (λ (t : List ℕ). 1 ∷ id ∷ header ∷ t) (sym (append_assoc p (replicate (32 - w) 0) (s ++ replicate (132 - n) 0))))

  pub stored : splice (splice (splice (splice (splice offer 0 head) 3 p) (15 + w) (replicate (32 - w) 0)) 47 s) (47 + n) (replicate (132 - n) 0)
      ≡ S.offered id (filled 45 (header ∷ p)) (filled 132 s)
  stored =
      let z : List ℕ = replicate (32 - w) 0 in
      let y : List ℕ = replicate (132 - n) 0 in
      let lz : length z ≡ 32 - w = length-replicate (32 - w) 0 in
      let ly : length y ≡ 132 - n = length-replicate (132 - n) 0 in
      let lq : length (head ++ p) ≡ 15 + w = simp length-append (omega arith) in
      let lm : length m ≡ 47 = length_m in
      let lr : length (m ++ s) ≡ 47 + n = simp length-append (omega arith) in
      ap (λ (x : List ℕ). splice (splice (splice x (15 + w) z) 47 s) (47 + n) y) (splice-after offer 0 3 head p (omega arith) (omega arith))
      ∙ ap (λ (x : List ℕ). splice (splice x 47 s) (47 + n) y) (splice-after offer 0 (15 + w) (head ++ p) z (omega arith) (omega arith))
      ∙ ap (λ (x : List ℕ). splice x (47 + n) y) (splice-after offer 0 47 m s (omega arith) (omega arith))
      ∙ splice-after offer 0 (47 + n) (m ++ s) y (omega arith) (omega arith)
      ∙ splice_whole offer whole (omega (arith, length_whole))
      ∙ whole_is
