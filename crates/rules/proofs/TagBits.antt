-- A tag's bits are those of the truncated code. Assumes nothing.
use Prim.Native.Nat.{ℕ, zero, suc, ◌+◌, ◌*◌, ◌<◌}
use mathlib.Core.Path.{◌≡◌, refl, sym, ap, ◌∙◌}
use mathlib.Core.List.{List}
use native.Mathlib.Nat.{zero-add}
use native.Mathlib.Omega.{arith}
use borrow.Author.Tests.{lt-ltb}
use Rattle.cmac.specs.Cmac as Cmac
use Rattle.cmac.proofs.Truncation.{bit-truncated}
use Rattle.rules.specs.Bits.{bit, bits}
use Rattle.rules.specs.Tags.{mac_code, mac_bits}

-- the number in the first n bits is the same where those bits are
bits-same : (s u : List ℕ) (n : ℕ) → ((i : ℕ) → i < n → bit s i ≡ bit u i) → bits s 0 n ≡ bits u 0 n
unfolding bits
bits-same s u zero f = refl
bits-same s u (suc n) f = rw (bits-same s u n (λ i h. f i (omega arith)), zero-add n, f n (omega arith))

first_bit : (n : ℕ) (code : List ℕ) (i : ℕ) → i < n → bit code i ≡ bit (Cmac.truncated n code) i
unfolding bit Cmac.bit
first_bit n code i h = sym (bit-truncated n code i ∙ rw (lt-ltb i n h))

pub tag_bits : (mf n : ℕ) (key message : List ℕ) → mac_bits mf n key message ≡ bits (Cmac.truncated n (mac_code mf key message)) 0 n
unfolding mac_bits
tag_bits mf n key message =
    let code = mac_code mf key message in
    bits-same code (Cmac.truncated n code) n (first_bit n code)
