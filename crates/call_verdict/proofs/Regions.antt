-- Regions that a verdict writes whole: the message that waits, the chain, the numbers, the held key.
-- Assumes nothing.
use mathlib.Core.Path.{◌≡◌, sym, ap, ◌∙◌}
use mathlib.Core.List.{List, ◌∷◌, ◌++◌}
use Prim.Native.Nat.{ℕ, ◌-◌, ◌≤◌}
use native.Mathlib.Nat.{zero-add}
use native.Mathlib.Omega.{arith}
use lib.ListN.{length, set, replicate, length-append, length-replicate}
use Rattle.laws.specs.Lists.{part, splice}
use Rattle.laws.proofs.Splice.{splice_whole, splice-append, length_part, splice_cons}
use Rattle.rules.specs.Bits.{filled}
use Rattle.rules.specs.Kroot.{no_offer, kroot_of, key_width, ks_of}
use Rattle.rules.proofs.Bounds.{key_width_bound}
use Rattle.rules.specs.State.{offer_length, chain_length, contents_length}

-- no message waits
pub wiped : (offer : List ℕ) → length offer ≡ offer_length → splice offer 0 (replicate offer_length 0) ≡ no_offer
unfolding no_offer
wiped offer h = splice_whole offer (replicate offer_length 0) (length-replicate {A = ℕ} offer_length 0 ∙ sym h)

-- the first byte, and the contents after it
pub put : (chain c : List ℕ) → length chain ≡ chain_length → length c ≡ contents_length → splice (set chain 0 1) 1 c ≡ 1 ∷ c
put chain c h k = splice_cons chain 0 1 c (omega arith) ∙ splice_whole chain (1 ∷ c) (omega arith)

-- the root key in 32 bytes, written in two steps
pub root_written : (heldkey c : List ℕ) (w : ℕ) → length heldkey ≡ 32 → length c ≡ contents_length → w ≡ key_width (ks_of c)
    → splice (splice heldkey 0 (part c 12 w)) w (replicate (32 - w) 0) ≡ filled 32 (kroot_of c)
unfolding kroot_of filled
root_written heldkey c w h k e =
    let b : w ≤ 32 = omega (arith, key_width_bound (ks_of c)) in
    let p : List ℕ = part c 12 w in
    let z : List ℕ = replicate (32 - w) 0 in
    let lp : length p ≡ w = length_part c 12 w (omega arith) in
    let lz : length z ≡ 32 - w = length-replicate (32 - w) 0 in
    let lw : length (p ++ z) ≡ 32 = simp length-append (omega arith) in
    ap (λ (i : ℕ). splice (splice heldkey 0 p) i z) (sym lp ∙ sym (zero-add (length p)))
    ∙ splice-append heldkey 0 p z (omega arith)
    ∙ splice_whole heldkey (p ++ z) (omega arith)
    ∙ ap (λ (i : ℕ). p ++ replicate (32 - i) 0) (sym lp)
    ∙ ap (λ (i : ℕ). part c 12 i ++ replicate (32 - length (part c 12 i)) 0) e
