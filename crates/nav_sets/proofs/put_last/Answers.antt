-- `nav_sets::put_last` meets its contract: the shift leaves 37 bits.
use mathlib.Core.Path.{◌≡◌, ◌∙◌}
use native.Mathlib.Omega.{arith}
use Rattle.rules.specs.Bits.{bits}
use Rattle.nav_sets.proofs.Gathered.{pair_inside, bits_front}
use borrow.Author.Rules.{rules}
use Rattle.nav_sets.proofs.put_last.Goals as goal

pub returns : goal.returns
returns c =
    let g = c.args in
    let w = g.w.now in
    let first : g.first ≡ bits w 512 64 = search rules in
    let x : c.pair.result ≡ bits w 548 64 =
    c.pair.ensures w 512 w 576 first c.get_u64-second.ensures ∙ pair_inside w 512 36 (omega arith) in
    rw (c.put_five.ensures, x, bits_front w 548 37 27)
