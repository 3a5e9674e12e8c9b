-- A message under a kept key has the code that it has under the key; the length of a kept key.
-- Assumes nothing.
use mathlib.Core.Path.{◌≡◌, ap, ◌∙◌}
use mathlib.Core.Bool.{Bool, true, false, cond}
use mathlib.Core.List.{List, [], ◌∷◌, ◌++◌}
use Prim.Native.Nat.{ℕ, ◌≤◌}
use native.Mathlib.Omega.{arith}
use lib.Dec.{eqb}
use borrow.Author.Tests.{le-ltb}
use lib.ListN.{length, get_or, drop, length-append, length-drop, length-set}
use Rattle.laws.specs.Lists.{part, splice}
use Rattle.laws.proofs.Fill.{get_d_past}
use Rattle.laws.proofs.Splice.{part_first, part_second, splice_end}
use Rattle.aes.specs.Aes.{rounds_of, expanded, cipher, aes}
use Rattle.aes.proofs.Keys.{length-expanded}
use Rattle.aes.proofs.Lengths.{length-cipher, rounds_range}
use Rattle.aes.specs.Aes as A
use Rattle.cmac.specs.Cmac as S
use Rattle.cmac.proofs.Operations.{length-shifted, xored-R128}
use Rattle.cmac.proofs.Steps.{part-all}

-- ---- lengths
pub length-doubled : (x : List ℕ) → length x ≡ 16 → length (S.doubled x) ≡ 16
unfolding S.doubled
length-doubled x e = go (eqb (S.bit x 0) 0)
  where
    go : (t : Bool) → length (cond t (S.shifted x) (A.xored (S.shifted x) S.R128)) ≡ 16
    go true = length-shifted x ∙ e
    go false =
        let f = length-shifted x ∙ e in
        ap length (xored-R128 (S.shifted x) f) ∙ simp length-set f

module _ (ciph : List ℕ → List ℕ) (h : (b : List ℕ) → length (ciph b) ≡ 16) where
  pub length_K1 : length (S.K1 ciph) ≡ 16
  unfolding S.K1
  length_K1 = length-doubled (ciph S.zero_block) (h S.zero_block)

  pub length_K2 : length (S.K2 ciph) ≡ 16
  unfolding S.K2
  length_K2 = length-doubled (S.K1 ciph) length_K1

pub length-aes : (k b : List ℕ) → length (aes k b) ≡ 16
unfolding aes
length-aes k b =
    let e = length-expanded k in
    let r = rounds_range (length k) in
    length-cipher (rounds_of (length k)) (expanded k) b (omega arith)

-- ---- the parts of four joined lists
module _ (w a b : List ℕ) (r : ℕ) (hw : length w ≡ 240) (ha : length a ≡ 16) (hb : length b ≡ 16) where
  round_keys : part (w ++ (a ++ (b ++ (r ∷ [])))) 0 240 ≡ w
  round_keys = part_first w (a ++ (b ++ (r ∷ []))) 0 240 (omega arith) ∙ part-all w 240 hw

  first_subkey : part (w ++ (a ++ (b ++ (r ∷ [])))) 240 16 ≡ a
  first_subkey = part_second w (a ++ (b ++ (r ∷ []))) 240 16 (omega arith) ∙ rw hw (part_first a (b ++ (r ∷ [])) 0 16 (omega arith) ∙ part-all a 16 ha)

  second_subkey : part (w ++ (a ++ (b ++ (r ∷ [])))) 256 16 ≡ b
  second_subkey =
      part_second w (a ++ (b ++ (r ∷ []))) 256 16 (omega arith)
      ∙ rw hw (part_second a (b ++ (r ∷ [])) 16 16 (omega arith) ∙ rw ha (part_first b (r ∷ []) 0 16 (omega arith) ∙ part-all b 16 hb))

  rounds : get_or (w ++ (a ++ (b ++ (r ∷ [])))) 272 0 ≡ r
  rounds =
      get_d_past w (a ++ (b ++ (r ∷ []))) 272 (omega arith)
      ∙ rw hw (get_d_past a (b ++ (r ∷ [])) 32 (omega arith) ∙ rw ha (get_d_past b (r ∷ []) 16 (omega arith) ∙ rw hb))

in_range : (r : ℕ) → 1 ≤ r → r ≤ 14 → S.rounds_in r ≡ r
unfolding S.rounds_in
in_range r g h = rw (le-ltb r 1 g, le-ltb 14 r h)

from_parts : (s w a b m : List ℕ) (n r : ℕ) → part s 0 240 ≡ w → part s 240 16 ≡ a → part s 256 16 ≡ b → get_or s 272 0 ≡ n → S.rounds_in n ≡ r
    → S.cmac_with s m ≡ S.mac (cipher r w) a b m
unfolding S.cmac_with
from_parts s w a b m n r p q t u v = rw (p, q, t, u, v)

pub kept : (k m : List ℕ) → S.cmac_with (S.kept_of k) m ≡ S.cmac k m
unfolding S.kept_of S.cmac aes
kept k m =
    let w = expanded k in
    let a = S.K1 (aes k) in
    let b = S.K2 (aes k) in
    let r = rounds_of (length k) in
    let hw = length-expanded k in
    let ha = length_K1 (aes k) (length-aes k) in
    let hb = length_K2 (aes k) (length-aes k) in
    let n = rounds_range (length k) in
    from_parts (w ++ (a ++ (b ++ (r ∷ [])))) w a b m r r
    (round_keys w a b r hw ha hb)
    (first_subkey w a b r hw ha hb)
    (second_subkey w a b r hw ha hb)
    (rounds w a b r hw ha hb)
    (in_range r n.0 n.1)

-- the round keys w, given back to the front of d, and what is put after them
pub kept_parts : (d k w r : List ℕ) (n : ℕ) → length d ≡ 273 → w ≡ expanded k → n ≡ rounds_of (length k)
    → r ≡ splice (w ++ drop 240 d) 240 (S.K1 (cipher n (part (w ++ drop 240 d) 0 240)) ++ (S.K2 (cipher n (part (w ++ drop 240 d) 0 240)) ++ (n ∷ []))) → r ≡ S.kept_of k
unfolding S.kept_of aes
kept_parts d k w r n h p q e =
    let hw = length-expanded k in
    let f : part (expanded k ++ drop 240 d) 0 240 ≡ expanded k = part_first (expanded k) (drop 240 d) 0 240 (omega arith) ∙ part-all (expanded k) 240 hw in
    let ha = length_K1 (aes k) (length-aes k) in
    let hb = length_K2 (aes k) (length-aes k) in
    e ∙ rw (p, q, f) (splice_end (expanded k) (drop 240 d) 240 (S.K1 (aes k) ++ (S.K2 (aes k) ++ (rounds_of (length k) ∷ []))) hw (simp (length-append, length-drop) (omega arith)))
