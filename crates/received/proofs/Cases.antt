-- The two cases of an item: every bit of it came, and it is the number shown, or a bit of it is lost, and 0 is shown.
-- Assumes nothing.
use mathlib.Core.Path.{◌≡◌, refl}
use mathlib.Core.Bool.{Bool, true, false, cond}
use mathlib.Core.List.{List}
use Prim.Native.Nat.{ℕ, ◌^◌, ◌<◌}
use native.Mathlib.Omega.{arith}
use Rattle.std.specs.Prelude.{Some, None, is_some, unwrap_or}
use Rattle.rules.specs.Bits.{bits}
use Rattle.rules.specs.Received.{bits_came, shown}
use Rattle.rules.proofs.Bounds.{bits_lt}
use Rattle.received.specs.Items.{item_at}

some_by : (b : Bool) (n : ℕ) → is_some (cond b (Some n) None) ≡ b
some_by true n = refl
some_by false n = refl

number_by : (b : Bool) (n : ℕ) → unwrap_or (cond b (Some n) None) 0 ≡ cond b n 0
number_by true n = refl
number_by false n = refl

module _ (m : List ℕ) (marks at n : ℕ) where
  pub item_came : is_some (item_at m marks at n) ≡ bits_came marks at n
  unfolding item_at
  item_came = some_by (bits_came marks at n) (bits m at n)

  pub item_shown : unwrap_or (item_at m marks at n) 0 ≡ shown m marks at n
  unfolding item_at shown
  item_shown = number_by (bits_came marks at n) (bits m at n)

  by_test : (b : Bool) → cond b (bits m at n) 0 < 2 ^ n
  by_test true = bits_lt m at n
  by_test false = omega (arith, bits_lt m at n)

  pub shown_lt : shown m marks at n < 2 ^ n
  unfolding shown
  shown_lt = by_test (bits_came marks at n)
