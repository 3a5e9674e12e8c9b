-- "the chain is unchanged (CID, parameters, α)": of a chain and itself, and over two renewals. Assumes nothing.
use Prim.Native.Nat.{ℕ}
use mathlib.Core.Path.{◌≡◌, refl, ◌∙◌}
use mathlib.Core.Bool.{Bool, true}
use mathlib.Core.List.{List, [], ◌∷◌}
use lib.Dec.{eqb}
use borrow.Author.Tests.{eqb-true, eq-eqb}
use Rattle.laws.proofs.Same.{same_true, same_equal}
use Rattle.rules.specs.Bits.{same}
use Rattle.rules.specs.Kroot.{cidkr_of, nmack_of, hf_of, mf_of, ks_of, ms_of, maclt_field_of, mo_of, alpha_of}
use Rattle.rules.specs.Verdict.{chain_unchanged}
use Rattle.rules.proofs.Choices.{each}

record Equal (a b : List ℕ) : Type 0 where
  cidkr : cidkr_of a ≡ cidkr_of b
  nmack : nmack_of a ≡ nmack_of b
  hf : hf_of a ≡ hf_of b
  mf : mf_of a ≡ mf_of b
  ks : ks_of a ≡ ks_of b
  ms : ms_of a ≡ ms_of b
  maclt : maclt_field_of a ≡ maclt_field_of b
  mo : mo_of a ≡ mo_of b
  alpha : alpha_of a ≡ alpha_of b

abbrev tests : List ℕ → List ℕ → List Bool
tests a b =
    eqb (cidkr_of a) (cidkr_of b)
    ∷ eqb (nmack_of a) (nmack_of b)
    ∷ eqb (hf_of a) (hf_of b)
    ∷ eqb (mf_of a) (mf_of b)
    ∷ eqb (ks_of a) (ks_of b)
    ∷ eqb (ms_of a) (ms_of b)
    ∷ eqb (maclt_field_of a) (maclt_field_of b)
    ∷ eqb (mo_of a) (mo_of b)
    ∷ same (alpha_of a) (alpha_of b)
    ∷ []

equal : (a b : List ℕ) → chain_unchanged a b ≡ true → Equal a b
unfolding chain_unchanged
equal a b h =
    record {
      cidkr = eqb-true _ _ (each (tests a b) h 0);
      nmack = eqb-true _ _ (each (tests a b) h 1);
      hf = eqb-true _ _ (each (tests a b) h 2);
      mf = eqb-true _ _ (each (tests a b) h 3);
      ks = eqb-true _ _ (each (tests a b) h 4);
      ms = eqb-true _ _ (each (tests a b) h 5);
      maclt = eqb-true _ _ (each (tests a b) h 6);
      mo = eqb-true _ _ (each (tests a b) h 7);
      alpha = same_true _ _ (each (tests a b) h 8);
    }

unchanged : (a b : List ℕ) → Equal a b → chain_unchanged a b ≡ true
unfolding chain_unchanged
unchanged a b e =
    rw (
      eq-eqb _ _ e.cidkr,
      eq-eqb _ _ e.nmack,
      eq-eqb _ _ e.hf,
      eq-eqb _ _ e.mf,
      eq-eqb _ _ e.ks,
      eq-eqb _ _ e.ms,
      eq-eqb _ _ e.maclt,
      eq-eqb _ _ e.mo,
      same_equal _ _ e.alpha,
    ) refl

pub unchanged_refl : (a : List ℕ) → chain_unchanged a a ≡ true
unchanged_refl a =
    unchanged a a
    (record { cidkr = refl; nmack = refl; hf = refl; mf = refl; ks = refl; ms = refl; maclt = refl; mo = refl; alpha = refl })

pub unchanged_trans : (a b c : List ℕ) → chain_unchanged a b ≡ true → chain_unchanged b c ≡ true → chain_unchanged a c ≡ true
unchanged_trans a b c p q =
    let e = equal a b p in
    let f = equal b c q in
    unchanged a c
    (record {
      cidkr = e.cidkr ∙ f.cidkr;
      nmack = e.nmack ∙ f.nmack;
      hf = e.hf ∙ f.hf;
      mf = e.mf ∙ f.mf;
      ks = e.ks ∙ f.ks;
      ms = e.ms ∙ f.ms;
      maclt = e.maclt ∙ f.maclt;
      mo = e.mo ∙ f.mo;
      alpha = e.alpha ∙ f.alpha;
    })
