-- DSM-PKR: the new key's head, sizes, one node more, and a complete message by its checks.
-- Assumes nothing.
use mathlib.Core.Path.{◌≡◌, refl, sym, ◌∙◌}
use mathlib.Core.Bool.{Bool, true, false, cond, ◌||◌}
use mathlib.Core.List.{List}
use Prim.Native.Nat.{ℕ, ◌+◌, ◌*◌, ◌/◌, ◌%◌, ◌^◌, ◌≤◌, ◌<◌}
use native.Mathlib.Omega.{arith}
use native.Mathlib.Numerals.{add-one}
use lib.Dec.{ltb, eqb}
use lib.ListN.{length, get_or}
use borrow.Author.Tests.{ltb-false, eqb-true, eqb-false, eq-eqb, ne_eqb}
use Rattle.laws.specs.Lists.{part}
use Rattle.laws.specs.Refusal.{neb}
use Rattle.laws.proofs.Refusal.{neb_false}
use Rattle.laws.proofs.Tests.{neither}
use Rattle.bitfields.proofs.Fields.{bits_in_byte}
use Rattle.kroot.proofs.Parameters.{low_bits, least_fits}
use Rattle.rules.specs.PublicKeys as K
use Rattle.rules.specs.Kroot.{least_blocks}
use Rattle.rules.specs.Pkr as S

-- ---- the new key's type and ID

pub type_is : (d : List ℕ) → get_or d 129 0 / 2 ^ 4 % 16 ≡ S.new_type_of d
unfolding S.new_type_of
type_is d = sym (bits_in_byte d 129 0 4 (omega arith))

pub id_is : (d : List ℕ) → get_or d 129 0 % 16 ≡ S.new_id_of d
unfolding S.new_id_of
id_is d = sym (low_bits d 129 4 4 refl)

-- ---- sizes

module _ (d : List ℕ) where
  pub bad_emergency : S.new_type_of d ≡ 4 → (ltb (length d) 143 || neb (S.new_id_of d) 0) ≡ S.pkr_size_bad d
  unfolding S.pkr_size_bad S.emergency
  bad_emergency h = rw (eq-eqb (S.new_type_of d) 4 h)

  pub bad_other : (S.new_type_of d ≡ 4 → ⊥) → (ltb 4 (S.new_type_of d) || neb (length d) (13 * least_blocks (130 + K.key_length (S.new_type_of d)))) ≡ S.pkr_size_bad d
  unfolding S.pkr_size_bad S.emergency
  bad_other h = rw (ne_eqb (S.new_type_of d) 4 h)

  module _ (fits : S.pkr_size_bad d ≡ false) where
    pub emergency_size : S.new_type_of d ≡ 4 → 143 ≤ length d
    emergency_size h = ltb-false (length d) 143 (neither (ltb (length d) 143) (neb (S.new_id_of d) 0) (bad_emergency h ∙ fits)).0

    pub key_size : (S.new_type_of d ≡ 4 → ⊥) → (S.new_type_of d < 4) × (130 + K.key_length (S.new_type_of d) ≤ length d)
    key_size h =
        let n : ℕ = 130 + K.key_length (S.new_type_of d) in
        let p = neither (ltb 4 (S.new_type_of d)) (neb (length d) (13 * least_blocks n)) (bad_other h ∙ fits) in
        let t : S.new_type_of d ≤ 4 = ltb-false 4 (S.new_type_of d) p.0 in
        let l : length d ≡ 13 * least_blocks n = neb_false (length d) (13 * least_blocks n) p.1 in
        let q = least_fits n in
        (omega arith, omega arith)

    pub nodes_size : 130 ≤ length d
    nodes_size = go (eqb (S.new_type_of d) 4) refl
      where
        go : (b : Bool) → eqb (S.new_type_of d) 4 ≡ b → 130 ≤ length d
        go true e = omega (arith, emergency_size (eqb-true (S.new_type_of d) 4 e))
        go false e = omega (arith, key_size (eqb-false (S.new_type_of d) 4 e))

-- ---- the tree

pub one_node_more : (d h g : List ℕ) (j : ℕ) → h ≡ S.climbed d j → g ≡ S.joined (get_or d 0 0 % 16) j (part d (1 + 32 * j) 32) h → g ≡ S.climbed d (j + 1)
unfolding S.climbed S.message_id_of S.node_of
one_node_more d h g j e p = p ∙ rw (add-one j, low_bits d 0 4 4 refl, e)

-- ---- a key that the tree proves

-- the number and the keys after a proved key
abbrev pub Welcomed : List ℕ → List ℕ → ℕ → List ℕ → Type 0
Welcomed pubkeys d code ks = (code ≡ cond (S.key_welcome pubkeys d) 0 9) × (ks ≡ cond (S.key_welcome pubkeys d) (S.key_added pubkeys d) pubkeys)

module _ (pubkeys d : List ℕ) where
  pub same_again : K.same_key pubkeys (S.new_id_of d) (S.new_type_of d) (S.new_key_of d) ≡ true → Welcomed pubkeys d 0 pubkeys
  unfolding S.key_welcome S.key_added
  same_again h = rw h (refl, refl)

  pub not_above : K.same_key pubkeys (S.new_id_of d) (S.new_type_of d) (S.new_key_of d) ≡ false → K.above_all pubkeys (S.new_id_of d) ≡ false → Welcomed pubkeys d 9 pubkeys
  unfolding S.key_welcome S.key_added
  not_above h k = rw (h, k) (refl, refl)

  pub added : K.same_key pubkeys (S.new_id_of d) (S.new_type_of d) (S.new_key_of d) ≡ false → K.above_all pubkeys (S.new_id_of d) ≡ true
      → (ks : List ℕ) → ks ≡ K.with_key pubkeys (S.new_id_of d) (S.new_type_of d) (S.new_key_of d) → Welcomed pubkeys d 0 ks
  unfolding S.key_welcome S.key_added
  added h k ks e = rw (h, k) (refl, e)

-- ---- a complete DSM-PKR by its checks

module _ (pubkeys root d : List ℕ) where
  abbrev pub Judged : ℕ → Bool → List ℕ → Type 0
  Judged code stops ks =
      (code ≡ (S.pkr_judged pubkeys root d).code) × ((stops ≡ (S.pkr_judged pubkeys root d).stops) × (ks ≡ (S.pkr_judged pubkeys root d).pubkeys))

  pub size_refused : S.pkr_size_bad d ≡ true → Judged 6 false pubkeys
  unfolding S.pkr_judged S.pkr_checks
  size_refused h = rw h (refl, (refl, refl))

  module _ (fits : S.pkr_size_bad d ≡ false) where
    pub tree_refused : S.tree_proved root d ≡ false → Judged 10 false pubkeys
    unfolding S.pkr_judged S.pkr_checks
    tree_refused h = rw (fits, h) (refl, (refl, refl))

    module _ (proved : S.tree_proved root d ≡ true) where
      pub stopped : S.new_type_of d ≡ 4 → Judged 0 true pubkeys
      unfolding S.pkr_judged S.pkr_checks S.emergency
      stopped h = rw (fits, proved, eq-eqb (S.new_type_of d) 4 h) (refl, (refl, refl))

      pub renewed : (S.new_type_of d ≡ 4 → ⊥) → (code : ℕ) (ks : List ℕ) → Welcomed pubkeys d code ks → Judged code false ks
      unfolding S.pkr_judged S.pkr_checks S.emergency
      renewed h code ks e = go (S.key_welcome pubkeys d) refl
        where
          go : (b : Bool) → S.key_welcome pubkeys d ≡ b → Judged code false ks
          go true w = rw (fits, proved, ne_eqb (S.new_type_of d) 4 h, w) ((rw w at e).0, (refl, (rw w at e).1))
          go false w = rw (fits, proved, ne_eqb (S.new_type_of d) 4 h, w) ((rw w at e).0, (refl, (rw w at e).1))
