-- `nav_sets::put_word` meets its contract: two numbers of eight bytes, one right after the other.
use mathlib.Core.Path.{◌≡◌, ap, ◌∙◌}
use Prim.Native.Nat.{ℕ, ◌+◌, ◌-◌, ◌*◌}
use native.Mathlib.Omega.{arith}
use native.Mathlib.Nat.{add-zero}
use Rattle.rules.specs.Bits.{bits}
use Rattle.nav_sets.specs.Pieces.{pair_of}
use Rattle.nav_sets.proofs.Gathered.{pair_inside, piece_spliced}
use borrow.Author.Rules.{rules}
use Rattle.nav_sets.proofs.put_word.Goals as goal

pub returns : goal.returns
returns c =
    let g = c.args in
    let w = g.w.now in
    let b = 8 * g.at in
    let first : g.first ≡ bits w b 64 = search rules in
    let second : c.get_u64-second.result ≡ bits w (b + 64) 64 = c.get_u64-second.ensures ∙ ap (λ (x : ℕ). bits w x 64) (omega arith) in
    let next : c.get_u64-next.result ≡ bits w (b + 128) 64 = c.get_u64-next.ensures ∙ ap (λ (x : ℕ). bits w x 64) (omega arith) in
    let one : c.pair.result ≡ bits w (b + g.from) 64 =
    c.pair.ensures w b w (b + 64) first second ∙ ap (pair_of w (b + g.from) (64 - g.from) w) (add-zero (b + 64)) ∙ pair_inside w b g.from (omega arith) in
    let e : b + 64 + g.from ≡ b + (64 + g.from) = omega arith in
    let two : c.pair-2.result ≡ pair_of w (b + (64 + g.from)) g.n w (b + 134) =
    c.pair-2.ensures w (b + 64) w (b + 128) second next ∙ rw e (ap (pair_of w (b + (64 + g.from)) g.n w) (omega arith)) in (
      rw (c.put_u64-2.ensures, c.put_u64.ensures, one, two) (piece_spliced g.out.now g.to w b g.from g.n (omega arith)),
      c.get_u64-next.ensures,
    )
