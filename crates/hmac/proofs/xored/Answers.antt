-- `hmac::xored` meets its contract: before turn i, the first i bytes are changed, and the others as they were.
use Rattle.std.proofs.Common.{◌≡◌, ℕ, length, length-set, get_or-set_other, refl, sym, ap, ◌∙◌, arith, rules}
use lib.Bits.{bit_xor}
use Rattle.laws.proofs.Fill.{fill_one, fill_all}
use Rattle.hmac.specs.Hmac as Spec
use Rattle.hmac.proofs.Pads.{get_or-xored, length-xored}
use Rattle.hmac.proofs.xored.Goals as goal

pub loop-y-init : goal.loop-y-init
loop-y-init c = (search rules, (refl, λ k h. refl))

pub loop-y-preserved : goal.loop-y-preserved
loop-y-preserved c =
    let l = c.loop-y in
    let g = c.args in
    let e : length g.b ≡ 64 = search rules in
    let n = length-xored g.b g.x in (
      simp length-set l.invariant.0,
      (
        fill_one (Spec.xored g.b g.x) l.y-items l.y-index _ (omega arith) (omega arith) l.invariant.1.0
            (ap (λ (v : ℕ). bit_xor v g.x) (l.invariant.1.1 l.y-index (omega arith)) ∙ sym (get_or-xored g.b g.x l.y-index (omega arith))),
        λ k h. get_or-set_other l.y-items l.y-index k _ 0 (λ q. omega arith) ∙ l.invariant.1.1 k (omega arith),
      ),
    )

pub returns : goal.returns
returns c =
    let l = c.loop-y in
    let g = c.args in
    let e : length g.b ≡ 64 = search rules in
    fill_all _ l.y-items l.y-index 64 (omega arith) (omega arith) l.invariant.0 (length-xored g.b g.x ∙ e) l.invariant.1.0
