-- `cmac::chained` meets its contract: after i turns c is C_i.
use mathlib.Core.Path.{◌≡◌, refl, sym, ◌∙◌}
use lib.Seq.{length-take-le}
use Rattle.laws.specs.Lists.{part}
use Rattle.cmac.specs.Cmac as S
use native.Mathlib.Numerals.{add-one}
use native.Mathlib.Omega.{arith}
use Rattle.cmac.proofs.chained.Goals as goal

pub loop-i-init : goal.loop-i-init
unfolding S.chained S.zero_block
loop-i-init c = refl

pub next-requires : goal.next-requires
next-requires c = (c.requires.1, rw (← c.blocks-i-end.ensures) c.loop-i-test.true)

pub slice_bounds-cipher-end : goal.slice_bounds-cipher-end
slice_bounds-cipher-end c = sym (length-take-le 240 c.args.kept.now (omega arith))

pub cipher-c-requires : goal.cipher-c-requires
cipher-c-requires c =
    let e = length-take-le 240 c.args.kept.now (omega arith) in
    (omega arith, omega arith)

pub loop-i-preserved : goal.loop-i-preserved
unfolding S.chained part
loop-i-preserved c = c.cipher-c.ensures ∙ rw (c.next.ensures, c.loop-i.invariant, add-one)

pub returns : goal.returns
unfolding S.mac
returns c =
    let e : c.loop-i.i ≡ c.blocks-i-end.result = omega arith in
    c.loop-i.invariant ∙ rw (e, c.blocks-i-end.ensures)
