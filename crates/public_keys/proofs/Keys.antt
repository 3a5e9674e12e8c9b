-- Laws of the public keys: tables by key type, keys held among the higher ones, a key's place written in two steps.
-- Assumes nothing.
use mathlib.Core.Path.{◌≡◌}
use mathlib.Core.Bool.{true, false}
use mathlib.Core.List.{List, [], ◌∷◌}
use mathlib.Core.Logic.{⊎_elim}
use Prim.Native.Nat.{ℕ, zero, suc, ◌+◌, ◌≤◌, ◌<◌}
use native.Mathlib.Omega.{arith}
use native.Mathlib.Numerals.{add-one}
use borrow.Author.Tests.{eq-eqb, ne_eqb}
use Rattle.laws.specs.Lists.{same}
use Rattle.laws.proofs.Splice.{below?}
use Rattle.laws.proofs.Table.{table_range}
use Rattle.laws.proofs.Tests.{or_true}
use Rattle.rules.specs.Bits.{filled}
use Rattle.rules.specs.PublicKeys as S

-- ---- tables

pub signature_bound : (type : ℕ) → S.signature_length type ≤ 132
unfolding S.signature_length
signature_bound type = (table_range 0 132 132 (56 ∷ 64 ∷ 96 ∷ 132 ∷ []) tt (omega arith) (omega arith) type).1

-- ---- keys

-- a key that is held is among those held
pub held_among : (pubkeys : List ℕ) (id n m : ℕ) → n < m → S.key_held pubkeys (id + n) ≡ true → S.held_among pubkeys id m ≡ true
unfolding S.held_among
held_among pubkeys id n zero h e = absurd (omega arith)
held_among pubkeys id n (suc m) h e =
    ⊎_elim
    (λ p. rw (held_among pubkeys id n m p e))
    (λ p.
    let q : n ≡ m = omega arith in
    rw (← q, e) (or_true (S.held_among pubkeys id n)))
    (below? n m)

-- one ID more that is not held
pub held_more : (pubkeys : List ℕ) (id n : ℕ) → S.held_among pubkeys id n ≡ false → S.key_held pubkeys (id + n) ≡ false → S.held_among pubkeys id (n + 1) ≡ false
unfolding S.held_among
held_more pubkeys id n h e = rw (add-one, h, e)

-- a key's bytes compared in whole
pub same-key-not : (pubkeys : List ℕ) (id type : ℕ) (key : List ℕ) → S.key_held pubkeys id ≡ false → S.same_key pubkeys id type key ≡ false
unfolding S.same_key
same-key-not pubkeys id type key h = rw h

pub same-key_other : (pubkeys : List ℕ) (id type : ℕ) (key : List ℕ) → S.key_held pubkeys id ≡ true → (S.key_type pubkeys id ≡ type → ⊥) → S.same_key pubkeys id type key ≡ false
unfolding S.same_key
same-key_other pubkeys id type key h k = rw (h, ne_eqb (S.key_type pubkeys id) type k)

pub same-key-bytes : (pubkeys : List ℕ) (id type : ℕ) (key : List ℕ) → S.key_held pubkeys id ≡ true → S.key_type pubkeys id ≡ type
    → same (S.key_bytes pubkeys id) (filled 67 key) ≡ S.same_key pubkeys id type key
unfolding S.same_key
same-key-bytes pubkeys id type key h k = rw (h, eq-eqb (S.key_type pubkeys id) type k)
