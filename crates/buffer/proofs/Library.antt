-- What the library's methods on slices and numbers give, in the words of `laws`.
-- Assumes nothing.
use mathlib.Core.Path.{◌≡◌, refl, ap}
use mathlib.Core.List.{List, [], ◌∷◌}
use mathlib.Core.Bool.{◌&&◌}
use Prim.Native.Nat.{ℕ, ◌+◌, ◌-◌}
use native.Mathlib.Nat.{add-sub_cancel_left}
use lib.Dec.{eqb}
use lib.ListN.{length}
use borrow.Rule.Slice.PartMut.{put_mid}
use Rattle.std.specs.Cmp.Lexicographic.{pointwise}
use Rattle.laws.specs.Lists.{splice, same}
use Rattle.laws.proofs.Splice.{lent}

-- a part `&mut d[a..a + n]` that was lent and has come back as s
pub put_part : (d : List ℕ) (a n : ℕ) (ys s : List ℕ) → ys ≡ s → length s ≡ n → put_mid a (a + n - a) d ys ≡ splice d a s
put_part d a n ys s e l = rw (e, add-sub_cancel_left a n) (lent d a n s l)

-- `==` on slices
pub pointwise_same : (xs ys : List ℕ) → pointwise eqb xs ys ≡ same xs ys
unfolding same
pointwise_same [] [] = refl
pointwise_same [] (y ∷ ys) = refl
pointwise_same (x ∷ xs) [] = refl
pointwise_same (x ∷ xs) (y ∷ ys) = ap (◌&&◌ (eqb x y)) (pointwise_same xs ys)
