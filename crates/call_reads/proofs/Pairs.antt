-- The progress of a DSM ID by the mark of its block 0, and the pairs of one ID more (02, P9). Assumes nothing.
use mathlib.Core.Path.{◌≡◌, refl, ap, ◌∙◌}
use mathlib.Core.Bool.{true, false}
use mathlib.Core.List.{List}
use Prim.Native.Nat.{ℕ, ◌+◌, ◌-◌, ◌*◌, ◌≤◌}
use native.Mathlib.Numerals.{add-one}
use native.Mathlib.Omega.{arith}
use borrow.Rule.Slice.PartMut.{put_mid}
use lib.Count.{ones}
use lib.ListN.{length, get_or, take}
use Rattle.std.proofs.lemmas.Slice.{take-put_mid}
use Rattle.laws.specs.Lists.{part}
use Rattle.rules.specs.Gather.{total_of, marked}
use Rattle.rules.specs.Progress.{blocks_held, progress_of, pair_of, pairs_of}
use Rattle.rules.specs.State.{Store}
use Rattle.rules.specs.declared.Progress.TheVariants.{Unknown, Counted}
use Rattle.gather.proofs.Stores.{first_block}
use Rattle.rules.proofs.MessageProgress.{pair_length}

module _ (s : Store) (id : ℕ) where
  pub unknown : marked (get_or s.present id 0) 0 ≡ false → Unknown (ones (get_or s.present id 0)) ≡ progress_of s id
  unfolding progress_of blocks_held
  unknown n = rw n refl

  pub counted : (total missing : ℕ) → marked (get_or s.present id 0) 0 ≡ true → total ≡ total_of (part s.blocks (id * 208) 13) → missing ≡ total - ones (get_or s.present id 0)
      → Counted (ones (get_or s.present id 0)) missing ≡ progress_of s id
  unfolding progress_of blocks_held
  counted total missing m t e = rw (m, first_block s.blocks id, e, t) refl

pub pairs_more : (s : Store) (out : List ℕ) (i k : ℕ) (pair : List ℕ) → 2 * i + 2 ≤ length out → pair ≡ pair_of (progress_of s i) → take (2 * i) out ≡ pairs_of s i
    → take (2 * (i + 1)) (put_mid (2 * i) k out pair) ≡ pairs_of s (i + 1)
unfolding pairs_of
pairs_more s out i k pair h is e =
    let d : length pair ≡ 2 = ap length is ∙ pair_length (progress_of s i) in
    take-put_mid (2 * i) k out pair (2 * (i + 1)) (omega (arith, d)) (omega (arith, h)) ∙ rw (add-one i, e, is)
