-- `aes::x_power` meets its contract: after each turn the number is one power more.
use mathlib.Core.Path.{◌≡◌, ap, ◌∙◌}
use native.Mathlib.Omega.{arith}
use Rattle.aes.specs.Aes as S
use Rattle.aes.proofs.Keys.{one, power_more}
use Rattle.aes.proofs.x_power.Goals as goal

pub loop-init : goal.loop-init
loop-init c = one

pub loop-preserved : goal.loop-preserved
loop-preserved c = power_more c.loop.r _ c.loop.counter c.loop.invariant c.xtime-r.ensures

pub returns : goal.returns
returns c =
    let e : c.loop.counter ≡ c.args.n = omega arith in
    c.loop.invariant ∙ ap S.x_power e
