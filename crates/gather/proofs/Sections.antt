-- The split of a sub-frame: one field more of HKROOT, one of MACK.
-- Assumes nothing.
use mathlib.Core.Path.{◌≡◌, ap, ◌∙◌}
use mathlib.Core.List.{List}
use Prim.Native.Nat.{ℕ, ◌+◌, ◌*◌, ◌≤◌, ◌<◌}
use native.Mathlib.Numerals.{add-one}
use native.Mathlib.Omega.{arith}
use lib.ListN.{length, get_or, take, set}
use lib.Seq.{take-suc-set}
use Rattle.laws.specs.Lists.{part, splice}
use Rattle.laws.proofs.Splice.{length_part, take-splice}
use Rattle.rules.specs.Gather.{hkroot_of, mack_of}

pub hkroot_more : (f d : List ℕ) (i : ℕ) → i < length d → take i d ≡ hkroot_of f i → take (i + 1) (set d i (get_or f (5 * i) 0)) ≡ hkroot_of f (i + 1)
unfolding hkroot_of
hkroot_more f d i h e = rw (add-one, take-suc-set d i (get_or f (5 * i) 0) h, e)

pub mack_more : (f d : List ℕ) (i : ℕ) → 5 * i + 5 ≤ length f → 4 * i + 4 ≤ length d → take (4 * i) d ≡ mack_of f i
    → take (4 * (i + 1)) (splice d (4 * i) (part f (5 * i + 1) 4)) ≡ mack_of f (i + 1)
unfolding mack_of
mack_more f d i h k e =
    let p = length_part f (5 * i + 1) 4 (omega arith) in
    let n : 4 * (i + 1) ≡ 4 * i + length (part f (5 * i + 1) 4) = omega arith in
    ap (λ (m : ℕ). take m (splice d (4 * i) (part f (5 * i + 1) 4))) n
    ∙ take-splice d (4 * i) (part f (5 * i + 1) 4) (omega arith)
    ∙ rw (add-one i, e)
