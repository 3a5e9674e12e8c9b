-- `authentic_sets::agree` meets its contract: which place has these bits, the tests say; what is written there is the definition's own.
use mathlib.Core.Path.{◌≡◌, ap, sym, ◌∙◌}
use Prim.Native.Nat.{ℕ, ◌+◌, ◌≤◌}
use lib.ListN.{length}
use Rattle.rules.specs.State.{sets_length, arrivals_length, copy_length}
use Rattle.rules.specs.Times.{stamp_of}
use Rattle.authentic_sets.proofs.Agreed.{later_is, on_candidate_lem, anew}
use borrow.Author.Rules.{rules}
use Rattle.authentic_sets.proofs.agree.Goals as goal
use Rattle.authentic_sets.proofs.agree.Goals.{Start}

-- what the contract asks for
sets-long : (s : Start) → length s.args.sets.now ≡ sets_length
sets-long s = search rules

arrivals-long : (s : Start) → length s.args.arrivals.now ≡ arrivals_length
arrivals-long s = search rules

set_long : (s : Start) → length s.args.set.now ≡ copy_length
set_long s = search rules

named : (s : Start) → (1 ≤ s.args.t.prn) × (s.args.t.prn ≤ 36)
named s = search rules

pub returns-then-holds-2 : goal.returns-then-holds-2
unfolding stamp_of
returns-then-holds-2 c =
    let g = c.args in
    on_candidate_lem g.sets.now g.arrivals.now g.t.prn g.set.now (sets-long (goal.at.returns-then-holds-2 c).Start) (arrivals-long (goal.at.returns-then-holds-2 c).Start) (set_long (goal.at.returns-then-holds-2 c).Start) (named (goal.at.returns-then-holds-2 c).Start).0 (named (goal.at.returns-then-holds-2 c).Start).1
    g.ms (g.t.time + 1) (sym c.holds.ensures ∙ c.if-holds.false)
    (c.from.result + g.ms) c.max-then-holds-2.result c.sum.new.sets c.sum.new.arrivals _
    (sym c.holds-2.ensures ∙ c.if-holds-2.true) (ap (λ (x : ℕ). x + g.ms) c.from.ensures) (c.max-then-holds-2.ensures ∙ later_is _ _)
    c.sum.ensures

pub returns : goal.returns
unfolding stamp_of
returns c =
    let g = c.args in
    anew g.sets.now g.arrivals.now g.t.prn g.set.now (sets-long (goal.at.returns c).Start) (arrivals-long (goal.at.returns c).Start) (set_long (goal.at.returns c).Start) (named (goal.at.returns c).Start).0 (named (goal.at.returns c).Start).1
    g.ms (g.t.time + 1) (sym c.holds.ensures ∙ c.if-holds.false)
    c.sum-2.new.sets c.sum-2.new.arrivals _
    (sym c.holds-2.ensures ∙ c.if-holds-2.false) c.if-stamp-latest.false c.sum-2.ensures
