-- `tag_codes::put_info` meets its contract: the two bytes are stored just where the field is flexible.
use mathlib.Core.Path.{sym, ◌∙◌}
use native.Mathlib.Omega.{arith}
use Rattle.laws.proofs.Splice.{splice_nil}
use Rattle.tag_codes.proofs.put_info.Goals as goal

pub returns-then-flexible : goal.returns-then-flexible
returns-then-flexible c =
    let e = sym c.flexible.ensures ∙ c.if-flexible.true in
    (rw e c.put_u16.ensures, rw e)

pub returns-else-flexible : goal.returns-else-flexible
returns-else-flexible c =
    let g = c.args in
    let e = sym c.flexible.ensures ∙ c.if-flexible.false in
    (rw e (sym (splice_nil g.out.now g.n)), rw e (omega arith))
