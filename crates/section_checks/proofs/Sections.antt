-- Row 11 of a section by its tests, and the numbers of a chain in force. Assumes nothing.
use mathlib.Core.Path.{◌≡◌, sym}
use mathlib.Core.Bool.{true, false, not}
use mathlib.Core.List.{List}
use Prim.Native.Nat.{ℕ, ◌<◌, ◌≤◌}
use native.Mathlib.Omega.{arith}
use lib.Dec.{ltb, eqb}
use lib.ListN.{get_or}
use borrow.Author.Tests.{le-leb, lt-leb, eq-eqb, ne_eqb, not-true}
use Rattle.laws.proofs.Tests.{or_false, and_right}
use Rattle.rules.specs.Calls.{chain_of, section_unfit}
use Rattle.rules.specs.Gather.{status_of, cid_of}
use Rattle.rules.specs.Kroot.{in_force, parameters_bad, cidkr_of, root_seconds_of, chain_contents, chain_with}
use Rattle.rules.specs.State.{State}
use Rattle.rules.specs.Verdict.{cid_in_force}
use Rattle.rules.specs.Times.{seconds_of}
use Rattle.rules.specs.declared.Chain.{Chain}
use Rattle.chain.specs.Sound.{Sound}
use Rattle.chain.proofs.Bounds.{chain_sound}
use Rattle.section_checks.proofs.Forced.{chain_laid}
use Rattle.tags.specs.Layout.{Laid}

-- ---- row 11 by its tests

module _ (s : State) (config chain : List ℕ) (t header : ℕ) (ec : s.config ≡ config) (eh : s.chain ≡ chain) where
  pub no_chain : in_force config chain ≡ false → true ≡ section_unfit s t header
  unfolding section_unfit
  no_chain e = rw (ec, eh, e)

  module _ (e : in_force config chain ≡ true) where
    pub status_low : status_of header < 1 → true ≡ section_unfit s t header
    unfolding section_unfit
    status_low l = rw (ec, eh, e, lt-leb 1 (status_of header) l)

    pub status_high : 2 < status_of header → true ≡ section_unfit s t header
    unfolding section_unfit
    status_high l = rw (ec, eh, e, le-leb 1 (status_of header) (omega arith), lt-leb (status_of header) 2 l)

    module _ (l : 1 ≤ status_of header) (h : status_of header ≤ 2) where
      pub other_cid : (cidkr_of (chain_contents chain) ≡ cid_of header → ⊥) → true ≡ section_unfit s t header
      unfolding section_unfit cid_in_force
      other_cid n = rw (ec, eh, e, le-leb 1 (status_of header) l, le-leb (status_of header) 2 h, ne_eqb _ _ n)

      pub by_root : cidkr_of (chain_contents chain) ≡ cid_of header → ltb (seconds_of t) (root_seconds_of (chain_contents chain)) ≡ section_unfit s t header
      unfolding section_unfit cid_in_force chain_of chain_with
      by_root q =
          rw (ec, eh, e, le-leb 1 (status_of header) l, le-leb (status_of header) 2 h, eq-eqb _ _ q)
          (sym (or_false (ltb (seconds_of t) (root_seconds_of (chain_contents chain)))))

-- ---- the chain in force, and what is held

-- the numbers of a chain in force are in range, and its blocks are laid out
pub chain_fits : (config chain : List ℕ) (ns : ℕ) (c : Chain) → c ≡ chain_with ns (chain_contents chain) → 1 ≤ ns → ns ≤ 36 → in_force config chain ≡ true → Sound c × Laid c
unfolding in_force
chain_fits config chain ns c e l h f =
    let b = not-true (parameters_bad config (chain_contents chain)) (and_right (eqb (get_or chain 0 0) 1) (not (parameters_bad config (chain_contents chain))) f) in
    rw e (chain_sound ns config (chain_contents chain) l h b, chain_laid ns config (chain_contents chain) l h b)
