-- `kroot::root_seconds` meets its contract: week and hour are in range.
use native.Mathlib.Omega.{arith}
use Rattle.kroot.proofs.Parameters.{week_bound}
use Rattle.rules.specs.Kroot as S
use Rattle.kroot.proofs.root_seconds.Goals as goal

pub hour_seconds-requires : goal.hour_seconds-requires
hour_seconds-requires c =
    (omega (arith, c.root_week.ensures, week_bound c.args.c.now), omega arith)

pub returns : goal.returns
unfolding S.root_seconds_of
returns c = rw (c.hour_seconds.ensures, c.root_hour.ensures, c.root_week.ensures)
