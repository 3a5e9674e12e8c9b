-- What is kept of a key, and the code of a message, by the function that MF names.
-- Assumes nothing.
use mathlib.Core.Path.{◌≡◌}
use mathlib.Core.List.{List}
use Prim.Native.Nat.{ℕ}
use borrow.Author.Tests.{eq-eqb, ne_eqb}
use Rattle.hmac.specs.Hmac.{hmac, key_of}
use Rattle.cmac.specs.Cmac as Cmac
use Rattle.rules.specs.Bits.{bits}
use Rattle.rules.specs.Tags.{mac_code, mac_bits}
use Rattle.mac.specs.Kept.{kept_of, hmac_kept}

pub kept-cmac : (mf : ℕ) (k : List ℕ) → mf ≡ 1 → kept_of mf k ≡ Cmac.kept_of k
unfolding kept_of
kept-cmac mf k e = rw (eq-eqb mf 1 e)

pub kept-hmac : (mf : ℕ) (k : List ℕ) → (mf ≡ 1 → ⊥) → kept_of mf k ≡ hmac_kept (key_of k)
unfolding kept_of
kept-hmac mf k e = rw (ne_eqb mf 1 e)

pub bits-cmac : (mf n : ℕ) (k m : List ℕ) → mf ≡ 1 → mac_bits mf n k m ≡ bits (Cmac.cmac k m) 0 n
unfolding mac_bits mac_code
bits-cmac mf n k m e = rw (eq-eqb mf 1 e)

pub bits-hmac : (mf n : ℕ) (k m : List ℕ) → (mf ≡ 1 → ⊥) → mac_bits mf n k m ≡ bits (hmac k m) 0 n
unfolding mac_bits mac_code
bits-hmac mf n k m e = rw (ne_eqb mf 1 e)
