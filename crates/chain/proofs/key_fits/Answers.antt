-- `chain::key_fits` meets its contract: the key of the higher slot is hashed down and compared with the other.
use mathlib.Core.Path.{◌∙◌}
use native.Mathlib.Omega.{arith}
use lib.ListN.{take}
use Rattle.rules.specs.Chain as S
use Rattle.chain.proofs.Steps.{fits_up, fits_down, higher_up, higher_down}
use Rattle.chain.proofs.key_fits.Goals as goal

pub returns-then-up : goal.returns-then-up
returns-then-up c =
    let g = c.args in
    let h = S.held g.held (take g.c.width g.known) in
    let k = take g.c.width g.key in
    let d = c.descend.ensures in (
      fits_up g.c h g.slot k _ c.if-up.true d.0,
      (rw (higher_up h g.slot k c.if-up.true, d.1.1) d.1.0, (λ l m. d.1.1 ∙ c.stop_over.ensures.1 l m, λ l m. absurd (omega arith))),
    )

pub returns-else-up : goal.returns-else-up
returns-else-up c =
    let g = c.args in
    let h = S.held g.held (take g.c.width g.known) in
    let k = take g.c.width g.key in
    let d = c.descend-else-up.ensures in (
      fits_down g.c h g.slot k _ c.if-up.false d.0,
      (rw (higher_down h g.slot k c.if-up.false, d.1.1) d.1.0, (λ l m. d.1.1 ∙ c.stop_over-else-up.ensures.1 (omega arith) (omega arith), λ l m. d.1.1 ∙ c.stop_over-else-up.ensures.1 l m)),
    )
