-- `chain::key_on_way` meets its contract: the way goes on from a key that was met, which is the held one where slot m is above it.
use mathlib.Core.Path.{◌∙◌}
use lib.ListN.{take}
use Rattle.rules.specs.Chain as S
use Rattle.chain.proofs.Steps.{met_here, met_walked}
use Rattle.chain.proofs.key_on_way.Goals as goal

pub returns : goal.returns
returns c =
    let g = c.args in
    let h = S.held g.held (take g.c.width g.key.now) in
    let x = c.nearer-first.ensures in
    let y = c.nearer-at.ensures in
    met_walked g.c h c.nearer-at.result g.m _ _ c.requires.0.0.width_fits y.0.0
    (y.1.1.1 g.c h (x.1.1.1 g.c h (met_here g.c g.held g.key.now) c.requires.1.1.near_is) c.requires.1.1.low_is)
    (λ l.
    let e = y.1.0 l in
    e ∙ x.1.0 (rw (← e) l))
    c.key_of_slot.ensures
