-- Text behind text: what is written at the place past a first text is the two joined. A number and the character that ends it; four of them make
-- a line. Assumes nothing.
use mathlib.Core.Path.{◌≡◌, ◌∙◌}
use mathlib.Core.List.{List, [], ◌∷◌, ◌++◌, append_assoc}
use Prim.Native.Nat.{ℕ, ◌+◌, ◌≤◌}
use native.Mathlib.Omega.{arith}
use lib.ListN.{length, set, length-append}
use Rattle.laws.specs.Lists.{splice}
use Rattle.laws.proofs.Splice.{length_splice, splice-append, splice_one}
use Rattle.replay_lines.specs.Put.{Put}
use Rattle.rules.specs.Replay.{decimal, ended, answer_line, space, line_feed}

pub joined : (d : List ℕ) (a b : ℕ) (r s : List ℕ) → b ≡ a + length r → a + (length r + length s) ≤ length d
    → splice (splice d a r) b s ≡ splice d a (r ++ s)
joined d a b r s e h = rw e (splice-append d a r s h)

-- a second text at the place past the first
pub both_put : (d w v : List ℕ) (at e f n m : ℕ) (s t : List ℕ) → Put d w at e n s → Put w v e f m t → at + (n + m) ≤ length d → Put d v at f (n + m) (s ++ t)
both_put d w v at e f n m s t p q room =
    let x = p.past in
    let y = p.few in
    let z = q.past in
    let u = q.few in
    record {
      is = q.is ∙ rw p.is (joined d at e s t p.past (omega arith));
      past = simp length-append (omega arith);
      few = omega arith;
    }

pub one_put : (d : List ℕ) (at c : ℕ) → at + 1 ≤ length d → Put d (set d at c) at (at + 1) 1 (c ∷ [])
one_put d at c h = record { is = splice_one d at c (omega arith); past = omega arith; few = omega arith }

pub ended_put : (d w : List ℕ) (at e n c : ℕ) → Put d w at e 20 (decimal n) → at + 21 ≤ length d → Put d (set w e c) at (e + 1) 21 (ended n c)
unfolding ended
ended_put d w at e n c p h =
    let x = p.past in
    let y = p.few in
    let m : length w ≡ length d = rw p.is (length_splice d at (decimal n) (omega arith)) in
    both_put d w (set w e c) at e (e + 1) 20 1 (decimal n) (c ∷ []) p (one_put w e c (omega arith)) h

module _ (d v w x y : List ℕ) (a b c e : ℕ) (place first second count : ℕ) where
  pub line_put : Put d v 0 a 21 (ended place space) → Put v w a b 21 (ended first space) → Put w x b c 21 (ended second space)
      → Put x y c e 21 (ended count line_feed) → 84 ≤ length d → Put d y 0 e 84 (answer_line place first second count)
  unfolding answer_line
  line_put p q r s h =
      let two = both_put d v w 0 a b 21 21 _ _ p q (omega arith) in
      let three = both_put d w x 0 b c 42 21 _ _ two r (omega arith) in
      let four = both_put d x y 0 c e 63 21 _ _ three s h in
      rw (← append_assoc, ← append_assoc) four
