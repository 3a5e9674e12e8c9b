-- `cmac::doubled` meets its contract: the first bit decides on the reduction.
use mathlib.Core.Path.{◌≡◌, sym, ◌∙◌}
use Prim.Native.Nat.{◌/◌, ◌%◌}
use lib.ListN.{get_or, length}
use borrow.Author.Tests.{eq-eqb, ne_eqb}
use Rattle.cmac.specs.Cmac as S
use Rattle.cmac.proofs.Operations.{xored-R128}
use borrow.Author.Rules.{rules}
use Rattle.cmac.proofs.doubled.Goals as goal

pub returns-else-x-ne0 : goal.returns-else-x-ne0
unfolding S.doubled S.bit
returns-else-x-ne0 c = c.shifted-d.ensures ∙ rw (eq-eqb _ _ c.if-x-ne0.false)

pub returns-then-x-ne0 : goal.returns-then-x-ne0
unfolding S.doubled S.bit
returns-then-x-ne0 c =
    let x = c.args.x in
    let e : length c.shifted-d.result ≡ 16 = search rules in
    rw (ne_eqb (get_or x 0 0 / 128 % 2) 0 c.if-x-ne0.true, ← c.shifted-d.ensures) (sym (xored-R128 _ e))
