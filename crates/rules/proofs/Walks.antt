-- Steps down the key chain add up; the keys of a section have their width. Assumes nothing.
use Prim.Native.Nat.{ℕ, zero, suc, ◌+◌, ◌-◌, ◌≤◌}
use mathlib.Core.Path.{◌≡◌, sym, ◌∙◌, ap}
use mathlib.Core.List.{List}
use native.Mathlib.Nat.{suc-add, zero-add}
use native.Mathlib.Omega.{arith}
use lib.ListN.{length}
use Rattle.rules.specs.Chain.{key_step, walk}
use Rattle.rules.specs.Mack.{block_key}
use Rattle.rules.specs.declared.Chain.{Chain}
use Rattle.rules.proofs.Parts.{length-bytes_at}

-- a + b steps down are a steps and then b
pub walk-add : (c : Chain) (a b m : ℕ) (key : List ℕ) → walk c (a + b) m key ≡ walk c b m (walk c a (m + b) key)
unfolding walk
walk-add c zero b m key = rw zero-add
walk-add c (suc a) b m key =
    let e : m + (a + b) ≡ m + b + a = omega arith in
    rw suc-add (walk-add c a b m (key_step c (m + (a + b)) key) ∙ ap (λ (n : ℕ). walk c b m (walk c a (m + b) (key_step c n key))) e)

-- down to a slot on the way, and from there to the root
pub walk_through : (c : Chain) (high low : ℕ) (key : List ℕ) → low ≤ high → walk c low 0 (walk c (high - low) low key) ≡ walk c high 0 key
walk_through c high low key h =
    let sum : (high - low) + low ≡ high = omega arith in
    let z : 0 + low ≡ low = omega arith in
    ap (λ (n : ℕ). walk c low 0 (walk c (high - low) n key)) (sym z)
    ∙ sym (walk-add c (high - low) low 0 key)
    ∙ ap (λ (n : ℕ). walk c n 0 key) sum

pub key_width : (c : Chain) (m : List ℕ) (b : ℕ) → length (block_key c m b) ≡ c.width
unfolding block_key
key_width c m b = length-bytes_at m _ c.width
