-- `aes::x_power` meets its contract: after i turns the number is x^i.
use mathlib.Core.Path.{◌≡◌}
use Rattle.aes.specs.Aes as S
use Rattle.aes.proofs.x_power.Given as goal

abbrev pub invariant-loop : goal.invariant-loop
invariant-loop l = l.r ≡ S.x_power l.counter
