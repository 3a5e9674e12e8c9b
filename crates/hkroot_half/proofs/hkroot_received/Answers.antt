-- `hkroot_half::hkroot_received` meets its contract: where a field is missing all stays.
use Rattle.hkroot_half.proofs.Halves.{missing, none_missing}
use Rattle.hkroot_half.proofs.hkroot_received.Goals as goal

pub returns-then-fields_came-ne15 : goal.returns-then-fields_came-ne15
returns-then-fields_came-ne15 c = λ s ec es ek eo.
    missing s _ _ c.fields_came.result _ _ _ _ _ ec es ek eo c.fields_came.ensures c.if-fields_came-ne15.true

pub returns : goal.returns
returns c = λ s ec es ek eo.
    let g = c.args in
    none_missing s g.t g.marks c.fields_came.result g.hk.now _ c.fields_came.ensures c.if-fields_came-ne15.false (c.hkroot_half.ensures s ec es ek eo)
