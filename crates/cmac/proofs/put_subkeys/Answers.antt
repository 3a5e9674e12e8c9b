-- `cmac::put_subkeys` meets its contract: three parts, stored one after another.
use mathlib.Core.Path.{◌≡◌, sym, ◌∙◌}
use Rattle.laws.specs.Lists.{part}
use lib.ListN.{length}
use lib.Seq.{length-take-le}
use Rattle.cmac.specs.Cmac as S
use Rattle.cmac.proofs.Steps.{tail_parts}
use native.Mathlib.Omega.{arith}
use borrow.Author.Rules.{rules}
use Rattle.cmac.proofs.put_subkeys.Goals as goal

pub slice_bounds-cipher-end-2 : goal.slice_bounds-cipher-end-2
slice_bounds-cipher-end-2 c = sym (length-take-le 240 c.args.kept.now (omega arith))

pub cipher-requires : goal.cipher-requires
cipher-requires c =
    let e = length-take-le 240 c.args.kept.now (omega arith) in
    (omega arith, omega arith)

pub returns : goal.returns
unfolding S.K1 S.K2 S.zero_block part
returns c =
    let k1 = c.doubled-k1.result in
    let k2 = c.doubled-k2.result in
    let n1 : length k1 ≡ 16 = search rules in
    let n2 : length k2 ≡ 16 = search rules in
    let a1 = c.copy_from_slice.ensures.after in
    let a2 = c.copy_from_slice-2.ensures.after in
    tail_parts c.args.kept.now k1 k2 _ _ _ (omega arith) n1 n2 a1 a2
    ∙ rw (c.doubled-k2.ensures, c.doubled-k1.ensures, c.cipher.ensures)
