-- Text in a slice.
use Rattle.std.specs.Prelude.{◌≡◌, List, ℕ, ◌+◌, ◌≤◌, length}
use Rattle.laws.specs.Lists.{splice}

-- the slice was d and is w: a text of at most n bytes stands from place `at` on, up to place e, and nothing else changed
pub record Put (d w : List ℕ) (at e n : ℕ) (text : List ℕ) : Type 0 where
  pub is : w ≡ splice d at text
  pub past : e ≡ at + length text
  pub few : e ≤ at + n
