-- A message under a kept key has the code that it has under the key.
-- Assumes nothing.
use mathlib.Core.Path.{◌≡◌, ap, ◌∙◌}
use mathlib.Core.List.{List, ◌++◌}
use Prim.Native.Nat.{ℕ}
use lib.ListN.{length}
use Rattle.sha256.specs.Sha256.{sha256, compress, finished, H0}
use Rattle.sha256.proofs.Continued.{continued, from_start}
use Rattle.hmac.specs.Hmac as Spec
use Rattle.hmac.proofs.Pads.{length-xored, length-key_block}

length-inner_pad : (k : List ℕ) → length (Spec.inner_pad k) ≡ 64
unfolding Spec.inner_pad
length-inner_pad k = length-xored (Spec.key_block k) 0x36 ∙ length-key_block k

length-outer_pad : (k : List ℕ) → length (Spec.outer_pad k) ≡ 64
unfolding Spec.outer_pad
length-outer_pad k = length-xored (Spec.key_block k) 0x5c ∙ length-key_block k

after-pad : (b m : List ℕ) → length b ≡ 64 → finished (compress H0 b) 1 m ≡ sha256 (b ++ m)
after-pad b m e = continued b e H0 0 m ∙ from_start (b ++ m)

pub kept : (k m : List ℕ) → Spec.hmac_with (Spec.key_of k) m ≡ Spec.hmac k m
unfolding Spec.hmac_with Spec.key_of Spec.hmac
kept k m =
    ap (finished (compress H0 (Spec.outer_pad k)) 1) (after-pad (Spec.inner_pad k) m (length-inner_pad k))
    ∙ after-pad (Spec.outer_pad k) (sha256 (Spec.inner_pad k ++ m)) (length-outer_pad k)
