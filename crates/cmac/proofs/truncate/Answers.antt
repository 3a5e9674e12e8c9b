-- `cmac::truncate` meets its contract: after i turns the first i bytes are stored.
use mathlib.Core.Path.{◌≡◌, refl, sym, ◌∙◌}
use lib.ListN.{length, length-set}
use Rattle.laws.proofs.Fill.{fill_one, fill_all}
use Rattle.cmac.specs.Cmac as S
use Rattle.cmac.proofs.Truncation.{get_or-truncated, length-truncated, whole_bytes}
use borrow.Author.Rules.{rules}
use native.Mathlib.Omega.{arith}
use Rattle.cmac.proofs.truncate.Goals as goal

pub loop-i-init : goal.loop-i-init
loop-i-init c = (search rules, whole_bytes c.args.n c.args.code c.min-i.result (omega arith))

pub loop-i-preserved : goal.loop-i-preserved
loop-i-preserved c =
    let l = c.loop-i in
    let g = c.args in
    let e : length g.code ≡ 16 = search rules in
    let n = length-truncated g.n g.code in
    (simp length-set l.invariant.0, fill_one (S.truncated g.n g.code) l.d l.i _ (omega arith) (omega arith) l.invariant.1 (c.first_bits.ensures ∙ rw c.saturating_sub.ensures (sym (get_or-truncated g.n g.code l.i))))

pub returns : goal.returns
returns c =
    let l = c.loop-i in
    let g = c.args in
    let e : length g.code ≡ 16 = search rules in
    fill_all _ l.d l.i 16 (omega arith) (omega arith) l.invariant.0 (length-truncated g.n g.code ∙ e) l.invariant.1
