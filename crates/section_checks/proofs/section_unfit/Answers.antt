-- `section_checks::section_unfit` meets its contract: the tests are the definition's own.
use mathlib.Core.Path.{sym, ◌∙◌}
use Rattle.laws.specs.Lists.{part}
use Rattle.laws.proofs.Tests.{true_false}
use Rattle.rules.specs.Kroot.{chain_contents}
use Rattle.section_checks.proofs.Sections.{no_chain, status_low, status_high, other_cid, by_root}
use Rattle.section_checks.proofs.section_unfit.Goals as goal
use Rattle.section_checks.proofs.section_unfit.Goals.{then-not-in_force-via-then-not-in_force, then-not-in_force-via-else-not-in_force+then-status-lt-TEST, then-not-in_force-via-else-not-in_force+else-status-lt-TEST+then-status-gt-OPERATIONAL, then-not-in_force-via-else-not-in_force+else-status-lt-TEST+else-status-gt-OPERATIONAL+then-cidkr-cid_of}

pub returns-then-not-in_force : goal.returns-then-not-in_force
unfolding chain_contents part
returns-then-not-in_force c =
    let st = c.status_of-status.ensures in
    let f = c.in_force.ensures in (
      λ s ec eh. elim c.then-not-in_force.branch [
        | then-not-in_force-via-then-not-in_force w ↦ no_chain s _ _ _ _ ec eh (sym f ∙ w.if-not-in_force.true)
        | then-not-in_force-via-else-not-in_force+then-status-lt-TEST w ↦
            status_low s _ _ _ _ ec eh (sym f ∙ w.if-not-in_force.false) (rw st at w.if-status-lt-TEST.true)
        | then-not-in_force-via-else-not-in_force+else-status-lt-TEST+then-status-gt-OPERATIONAL w ↦
            status_high s _ _ _ _ ec eh (sym f ∙ w.if-not-in_force.false) (rw st at w.if-status-gt-OPERATIONAL.true)
        | then-not-in_force-via-else-not-in_force+else-status-lt-TEST+else-status-gt-OPERATIONAL+then-cidkr-cid_of w ↦
            other_cid s _ _ _ _ ec eh (sym f ∙ w.if-not-in_force.false) (rw st at w.if-status-lt-TEST.false) (rw st at w.if-status-gt-OPERATIONAL.false)
            (rw (w.cidkr.ensures, w.cid_of.ensures) at w.if-cidkr-cid_of.true)
      ],
      λ e. absurd (true_false e),
    )

pub returns : goal.returns
unfolding chain_contents part
returns c =
    let f = sym c.in_force.ensures ∙ c.if-not-in_force.false in
    let st = c.status_of-status.ensures in (
      λ s ec eh.
          rw (c.root_seconds.ensures, c.seconds_of.ensures)
          (by_root s _ _ _ _ ec eh f (rw st at c.if-status-lt-TEST.false) (rw st at c.if-status-gt-OPERATIONAL.false) (rw (c.cidkr.ensures, c.cid_of.ensures) at c.if-cidkr-cid_of.false)),
      λ e. f,
    )
