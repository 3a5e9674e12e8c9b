-- `chain::key_of_slot` meets its contract: a walk, or no step.
use Rattle.rules.specs.Chain as S
use Rattle.chain.proofs.Steps.{key-kept}
use Rattle.chain.proofs.key_of_slot.Goals as goal

pub returns-then-held-m : goal.returns-then-held-m
returns-then-held-m c =
    let g = c.args in
    key-kept g.c g.held g.m g.key.now c.if-held-m.true

pub returns : goal.returns
unfolding S.key_of_slot
returns c = c.walk.ensures
