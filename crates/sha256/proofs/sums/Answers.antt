-- `sha256::sums` meets its contract: each word is what `add` ensures.
use Rattle.std.proofs.Common.{refl, sym, ◌∙◌, length-set, arith, rules}
use Rattle.laws.proofs.Fill.{fill_one, fill_all}
use Rattle.sha256.specs.Sha256 as S
use Rattle.sha256.proofs.Computed.{length-sums, get_or-sums}
use Rattle.sha256.proofs.sums.Goals as goal

pub loop-i-init : goal.loop-i-init
loop-i-init c = (search rules, refl)

pub loop-i-preserved : goal.loop-i-preserved
loop-i-preserved c =
    let l = c.loop-i in
    let h = c.args.h in
    let s = c.args.s in
    let n = length-sums h s in
    (simp length-set l.invariant.0, fill_one (S.sums h s) l.v l.i _ (omega arith) (omega arith) l.invariant.1 (c.add.ensures ∙ sym (get_or-sums h s l.i (omega arith))))

pub returns : goal.returns
returns c =
    let l = c.loop-i in
    fill_all _ l.v l.i 8 (omega arith) (omega arith) l.invariant.0 (length-sums _ _) l.invariant.1
