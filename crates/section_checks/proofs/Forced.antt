-- The chain of accepted parameters has the layout that `judge_own` asks for; that its numbers are in range is `chain_sound` of `chain`.
-- Assumes nothing.
use mathlib.Core.Path.{◌≡◌}
use mathlib.Core.Bool.{false}
use mathlib.Core.List.{List, [], ◌∷◌}
use Prim.Native.Nat.{ℕ, ◌≤◌}
use native.Mathlib.Omega.{arith}
use Rattle.laws.proofs.Table.{table_range}
use Rattle.rules.specs.Kroot as K
use Rattle.chain.proofs.Bounds.{chain_sound}
use Rattle.tags.specs.Layout.{Laid}
use Rattle.tags.proofs.Places.{laid}

tag_wide : (code : ℕ) → 10 ≤ K.tag_width code
unfolding K.tag_width
tag_wide code = (table_range 10 40 40 (10 ∷ 12 ∷ 14 ∷ 16 ∷ 18 ∷ 20 ∷ 24 ∷ 28 ∷ 32 ∷ 40 ∷ []) tt (omega arith) (omega arith) code).0

ms_low : (ns : ℕ) (d : List ℕ) → 10 ≤ (K.chain_with ns d).ms
unfolding K.chain_with
ms_low ns d = tag_wide (K.ms_of d)

pub chain_laid : (ns : ℕ) (config d : List ℕ) → 1 ≤ ns → ns ≤ 36 → K.parameters_bad config d ≡ false → Laid (K.chain_with ns d)
chain_laid ns config d h k e =
    let s = chain_sound ns config d h k e in
    laid (K.chain_with ns d) s.walks.nmack_low s.walks.nmack_high (ms_low ns d) s.ms_high s.walks.width_low s.fields_are s.block_fits
