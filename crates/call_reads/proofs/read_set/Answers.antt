-- `call_reads::read_set` meets its contract: each return is the rule's, by the first check that fails.
use mathlib.Core.Path.{◌≡◌, sym, ◌∙◌}
use mathlib.Core.Bool.{true}
use Rattle.std.proofs.Common.{rules}
use Rattle.rules.specs.State.{prn_valid}
use Rattle.call_reads.proofs.Answers.{set_unheard, set_missing, set_found}
use Rattle.call_reads.proofs.read_set.Goals as goal
use Rattle.call_reads.proofs.read_set.Goals.{Else-not-prn_valid}

-- the PRN is heard
heard : (c : Else-not-prn_valid) → prn_valid c.args.prn ≡ true
heard c = sym c.prn_valid.ensures.0 ∙ c.if-not-prn_valid.false

pub returns-then-not-prn_valid : goal.returns-then-not-prn_valid
returns-then-not-prn_valid c =
    λ s. set_unheard s c.args.sets.now c.args.arrivals.now c.args.out.now c.args.prn ((search rules, search rules), search rules) (sym c.prn_valid.ensures.0 ∙ c.if-not-prn_valid.true)

pub returns-then-stamp-eq0 : goal.returns-then-stamp-eq0
returns-then-stamp-eq0 c =
    λ s.
    set_missing s c.args.sets.now c.args.arrivals.now c.args.out.now c.args.prn ((search rules, search rules), search rules) (heard (goal.at.returns-then-stamp-eq0 c).Else-not-prn_valid) c.stamp_of-stamp.result
    (rw c.index-satellite.ensures.0 at (c.stamp_of-stamp.ensures c.args.sets.now))
    c.if-stamp-eq0.true

pub returns : goal.returns
returns c =
    let stamp = c.stamp_of-stamp in
    λ s.
    set_found s c.args.sets.now c.args.arrivals.now c.args.out.now c.args.prn ((search rules, search rules), search rules)
    (heard (goal.at.returns c).Else-not-prn_valid)
    c.copy_set.new.out
    c.set_issue-issue.result
    stamp.result
    (rw c.index-satellite.ensures.0 at (c.copy_set.ensures c.args.arrivals.now))
    c.set_issue-issue.ensures
    (rw c.index-satellite.ensures.0 at (stamp.ensures c.args.sets.now))
    c.if-stamp-eq0.false
