-- `sha256::joined_part` meets its contract: the part lies in b, in a, or in both.
use Rattle.std.proofs.Common.{◌≡◌, ℕ, ◌+◌, ◌-◌, ◌≤◌, List, ◌++◌, length, replicate, ◌∙◌, zero-add, arith}
use Rattle.laws.specs.Lists.{part, splice}
use Rattle.laws.proofs.Splice.{part_first, part_second, part_across, splice-append, length_part}
use Rattle.sha256.proofs.joined_part.Goals as goal

-- two copies, the second where the first ends
joined : (x y z : List ℕ) (n : ℕ) {d e : List ℕ} → d ≡ splice (replicate 64 0) 0 x → e ≡ splice d n y → length x ≡ n → z ≡ x ++ y
    → n + length y ≤ 64 → e ≡ splice (replicate 64 0) 0 z
joined x y z n p q l j h =
    let f : 0 + length x ≡ length x = zero-add (length x) in
    q ∙ rw (p, ← l, ← f, splice-append (replicate 64 0) 0 x y (omega arith), j)

pub returns-then-a-at : goal.returns-then-a-at
returns-then-a-at c =
    rw (part_second c.args.a.now c.args.b.now c.args.at c.args.n c.if-a-at.true) c.copy_part.ensures

pub returns-then-n-left : goal.returns-then-n-left
returns-then-n-left c =
    rw (part_first c.args.a.now c.args.b.now c.args.at c.args.n (omega arith)) c.copy_part-then-n-left.ensures

pub returns : goal.returns
returns c =
    let a = c.args.a.now in
    let b = c.args.b.now in
    let at = c.args.at in
    let n = c.args.n in
    let left = length a - at in
    let e : length (part a at left) ≡ left = length_part a at left (omega arith) in
    let f : length (part b 0 (n - left)) ≡ n - left = length_part b 0 (n - left) (omega arith) in
    joined (part a at left) (part b 0 (n - left)) _ left c.copy_part-2.ensures c.copy_part-3.ensures e (part_across a b at n (omega arith) (omega arith)) (omega arith)
