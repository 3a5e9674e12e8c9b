-- The first check that fails gives 1 and leaves the key; where none does, the numbers are in range.
-- Assumes nothing.
use mathlib.Core.Path.{◌≡◌, sym, ◌∙◌}
use mathlib.Core.Bool.{Bool, true, false, cond, not}
use mathlib.Core.Logic.{⊎_elim}
use mathlib.Core.List.{List}
use Prim.Native.Nat.{ℕ, ◌+◌, ◌-◌, ◌^◌, ◌≤◌, ◌<◌}
use native.Mathlib.Omega.{arith}
use lib.Dec.{leb, ltb}
use lib.ListN.{take}
use borrow.Author.Tests.{lt-leb, le-leb}
use Rattle.laws.specs.Lists.{splice}
use Rattle.laws.specs.Refusal.{first_refusal}
use Rattle.laws.proofs.Splice.{below?}
use Rattle.rules.specs.Bits.{within}
use Rattle.rules.specs.Chain as S
use Rattle.rules.specs.declared.Chain.{Chain}
use Rattle.rules.proofs.Bounds.{within_range}
use Rattle.chain.specs.Sound.{Walks}
use Rattle.chain.proofs.Hashes.{hash_bound}
use Rattle.test_leaves.specs.Numbers.{chain_of}
use Rattle.test_leaves.specs.Walk.{gave, longest_key, walk_checks, osnma_walk}

fails : (a : Bool) (n : ℕ) → a ≡ false → cond (not a) 1 n ≡ 1
fails a n e = rw e

passes : (a : Bool) (n : ℕ) → a ≡ true → cond (not a) 1 n ≡ n
passes a n e = rw e

pub refused : (c : Chain) (n m : ℕ) (key : List ℕ) → first_refusal (walk_checks c.hf c.ns c.nmack c.root c.width n m) ≡ 1 → gave 1 key ≡ osnma_walk c n m key
unfolding osnma_walk
refused c n m key e = rw e

-- a sum compared without being made
pub without_sum : (n m : ℕ) → m ≤ 2 ^ 34 → leb n (2 ^ 34 - m) ≡ leb (m + n) (2 ^ 34)
without_sum n m h =
    ⊎_elim
    (λ l. lt-leb n (2 ^ 34 - m) (omega arith) ∙ sym (lt-leb (m + n) (2 ^ 34) (omega arith)))
    (λ l. le-leb n (2 ^ 34 - m) (omega arith) ∙ sym (le-leb (m + n) (2 ^ 34) (omega arith)))
    (below? (2 ^ 34) (m + n))

-- the longest key is part of a digest
longest_fits : (hf : ℕ) → longest_key hf ≤ S.hash_bytes hf
unfolding longest_key
longest_fits hf = go (ltb 2 hf)
  where
    go : (b : Bool) → cond b 0 (S.hash_bytes hf) ≤ S.hash_bytes hf
    go true = omega arith
    go false = omega arith

module _ (hf ns nmack root width n m : ℕ) where
  pub bad_ns : within 1 36 ns ≡ false → first_refusal (walk_checks hf ns nmack root width n m) ≡ 1
  unfolding walk_checks
  bad_ns e = fails (within 1 36 ns) _ e

  module _ (a : within 1 36 ns ≡ true) where
    pub bad_nmack : within 1 3 nmack ≡ false → first_refusal (walk_checks hf ns nmack root width n m) ≡ 1
    unfolding walk_checks
    bad_nmack e = passes (within 1 36 ns) _ a ∙ fails (within 1 3 nmack) _ e

    module _ (b : within 1 3 nmack ≡ true) where
      pub bad_width : within 12 (longest_key hf) width ≡ false → first_refusal (walk_checks hf ns nmack root width n m) ≡ 1
      unfolding walk_checks
      bad_width e = passes (within 1 36 ns) _ a ∙ passes (within 1 3 nmack) _ b ∙ fails (within 12 (longest_key hf) width) _ e

      module _ (d : within 12 (longest_key hf) width ≡ true) where
        left : ℕ
        left = cond (leb (2 ^ 33) root) 1 (cond (not (leb (m + n) (2 ^ 34))) 1 0)

        ranged : first_refusal (walk_checks hf ns nmack root width n m) ≡ left
        unfolding walk_checks left
        ranged = passes (within 1 36 ns) _ a ∙ passes (within 1 3 nmack) _ b ∙ passes (within 12 (longest_key hf) width) _ d

        pub bad_root : leb (2 ^ 33) root ≡ true → first_refusal (walk_checks hf ns nmack root width n m) ≡ 1
        unfolding left
        bad_root e = ranged ∙ rw e

        module _ (r : root < 2 ^ 33) where
          pub bad_slots : leb (m + n) (2 ^ 34) ≡ false → first_refusal (walk_checks hf ns nmack root width n m) ≡ 1
          unfolding left
          bad_slots e = ranged ∙ rw (lt-leb (2 ^ 33) root r, e)

          pub walks : (alpha : List ℕ) → Walks (chain_of ns nmack root alpha hf width)
          walks alpha =
              let x = within_range 1 36 ns a in
              let y = within_range 1 3 nmack b in
              let z = within_range 12 (longest_key hf) width d in
              let f = longest_fits hf in
              record { ns_low = x.0; ns_high = x.1; nmack_low = y.0; nmack_high = y.1; root_high = r; width_low = z.0; width_high = omega (arith, z.1, f, hash_bound hf); width_fits = omega (arith, z.1, f) }

          pub accepted : leb (m + n) (2 ^ 34) ≡ true → (alpha key out : List ℕ)
              → out ≡ splice key 0 (S.walk (chain_of ns nmack root alpha hf width) n m (take width key))
              → gave 0 out ≡ osnma_walk (chain_of ns nmack root alpha hf width) n m key
          unfolding osnma_walk left
          accepted e alpha key out p =
              let code : first_refusal (walk_checks hf ns nmack root width n m) ≡ 0 = ranged ∙ rw (lt-leb (2 ^ 33) root r, e) in
              rw (code, p)
