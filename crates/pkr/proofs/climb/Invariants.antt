-- `pkr::climb` meets its contract: after j turns the hash is joined with j nodes.
use mathlib.Core.Path.{◌≡◌}
use Rattle.rules.specs.Pkr as S
use Rattle.pkr.proofs.climb.Given as goal

abbrev pub invariant-loop-j : goal.invariant-loop-j
invariant-loop-j l = l.h ≡ S.climbed l.d l.j
