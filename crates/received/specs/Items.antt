-- An item of a MACK section as the reader answers it (02, P3: "Whatever reads keys and tags must say whether every bit of an item came").
use Rattle.std.specs.Prelude.{ℕ, cond, List, Option, Some, None}
use Rattle.rules.specs.Bits.{bits}
use Rattle.rules.specs.Received.{bits_came}

-- the n bits from bit `at` on as a number, or none where one of them is lost
unfoldable pub item_at : List ℕ → ℕ → ℕ → ℕ → Option ℕ
item_at m marks at n = cond (bits_came marks at n) (Some (bits m at n)) None
