-- `tag_records::names_satellite` meets its contract: the tests are the definition's own, and a time has room for its stamp.
use mathlib.Core.Path.{sym, ◌∙◌}
use mathlib.Core.Logic.{⊎_elim}
use Rattle.std.proofs.Common.{arith}
use borrow.Author.Rules.{rules}
use Rattle.regions.proofs.Faults.{prn_low, prn_high, prn_in, time_small}
use Rattle.rules.specs.Tags.{names_satellite}
use Rattle.tag_records.proofs.names_satellite.Goals as goal

pub returns-then-t-le36 : goal.returns-then-t-le36
unfolding names_satellite
returns-then-t-le36 c =
    let g = c.args in
    let h = c.if-t-le36.true in (
      rw (prn_in g.t.prn h.0 h.1) c.time_valid.ensures,
      λ e. (h, time_small g.t.time (search rules) (sym c.time_valid.ensures ∙ e)),
    )

pub returns-else-t-le36 : goal.returns-else-t-le36
unfolding names_satellite
returns-else-t-le36 c = ⊎_elim (λ h. let l = prn_high c.args.t.prn h.1 in grind arith) (λ h. let l = prn_low c.args.t.prn h in grind arith) c.if-t-le36.either
