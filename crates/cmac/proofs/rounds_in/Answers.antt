-- `cmac::rounds_in` meets its contract.
use mathlib.Core.Path.{◌∙◌}
use native.Mathlib.Omega.{arith}
use Rattle.cmac.proofs.Counts.{clamped}
use Rattle.cmac.proofs.rounds_in.Goals as goal

pub returns : goal.returns
returns c =
    let e = c.from.ensures ∙ c.clamp.ensures in
    (e ∙ clamped c.args.x, (omega arith, omega arith))
