-- The tests of a verdict where the NMA status is 1 or 2.
-- Assumes nothing.
use mathlib.Core.Path.{◌≡◌, sym, ◌∙◌}
use mathlib.Core.Bool.{Bool, true, ◌&&◌}
use mathlib.Core.List.{List}
use Prim.Native.Nat.{ℕ, ◌<◌}
use native.Mathlib.Omega.{arith}
use borrow.Author.Tests.{ne_eqb, le-leb}
use Rattle.laws.proofs.Tests.{or_false}
use Rattle.laws.specs.Refusal.{neb}
use Rattle.rules.specs.Bits.{within}
use Rattle.rules.specs.Gather.{status_of, cid_of}
use Rattle.rules.specs.Kroot.{cidkr_of}
use Rattle.rules.specs.State.{State}
use Rattle.rules.specs.Verdict as S
use Rattle.rules.proofs.Bounds.{status_bound}

within_two : (n : ℕ) → n < 4 → (n ≡ 0 → ⊥) → (n ≡ 3 → ⊥) → within 1 2 n ≡ true
within_two n h a b = rw (le-leb 1 n (omega arith), le-leb n 2 (omega arith))

module _ (s : State) (h : ℕ) (c : List ℕ) where
  -- row 11
  pub status_put : (k : ℕ) → h < 256 → (status_of h ≡ 0 → ⊥) → (status_of h ≡ 3 → ⊥) → k ≡ cid_of h → neb (cidkr_of c) k ≡ S.status_unfit s h c
  unfolding S.status_unfit
  status_put k l a b f =
      rw (f, ne_eqb (status_of h) 0 a, ne_eqb (status_of h) 3 b, within_two (status_of h) (status_bound h) a b)
      (sym (or_false (neb (cidkr_of c) (cid_of h))))

  -- row 9: "verdict that would put a root in force"
  pub root_put : (b : Bool) → h < 256 → (status_of h ≡ 0 → ⊥) → (status_of h ≡ 3 → ⊥) → b ≡ S.root_unfit s c → b ≡ within 1 2 (status_of h) && S.root_unfit s c
  root_put b l a e f = f ∙ sym (rw (within_two (status_of h) (status_bound h) a e))
