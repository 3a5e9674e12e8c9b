-- `osnma::osnma_regions_four` meets its contract: a wrong length is refused, then the inner call's contract at the lent state.
use mathlib.Core.Path.{◌≡◌, refl, sym, ◌∙◌}
use mathlib.Core.Bool.{true}
use lib.ListN.{length}
use Rattle.std.proofs.Common.{rules}
use Rattle.rules.specs.Four.{four_met}
use Rattle.rules.specs.Replay.{blank_core}
use Rattle.rules.specs.State.{State, four_lent, four_shaped, clocks_length, arrivals_length}
use Rattle.rules.proofs.Lengths.{four_sized}
use Rattle.osnma.proofs.Lengths.{four_misfit, four_told_lem}
use Rattle.osnma.proofs.osnma_regions_four.Goals as goal
use Rattle.osnma.proofs.osnma_regions_four.Goals.{After-four_met, Else-not-four_shaped, Start}

-- the state with the lent regions
abbrev lent : Start → State → State
lent c s = four_lent s c.args.clocks.now c.args.arrivals.now

pub returns-then-not-four_shaped : goal.returns-then-not-four_shaped
returns-then-not-four_shaped c =
    λ s. rw c.number.ensures (four_misfit (lent (goal.at.returns-then-not-four_shaped c).Start s) c.args.limit (sym (c.four_shaped.ensures s) ∙ c.if-not-four_shaped.true))

-- every lent length is right
long : (c : Else-not-four_shaped) → (length c.args.clocks.now ≡ clocks_length) × (length c.args.arrivals.now ≡ arrivals_length)
long c =
    four_sized (four_lent blank_core c.args.clocks.now c.args.arrivals.now) (sym (c.four_shaped.ensures blank_core) ∙ c.if-not-four_shaped.false)

pub unwrap-clocks-requires : goal.unwrap-clocks-requires
unwrap-clocks-requires c = c.as_array.ensures.variant.1 (long (goal.at.unwrap-clocks-requires c).Else-not-four_shaped).0

pub unwrap-arrivals-requires : goal.unwrap-arrivals-requires
unwrap-arrivals-requires c = c.as_array-2.ensures.variant.1 (long (goal.at.unwrap-arrivals-requires c).Else-not-four_shaped).1

right : (c : After-four_met) (s : State) → four_shaped (four_lent s c.args.clocks.now c.args.arrivals.now) ≡ true
right c s = sym (c.four_shaped.ensures s) ∙ c.if-not-four_shaped.false

met : (c : After-four_met) (s : State) → c.four_met.result ≡ four_met (four_lent s c.args.clocks.now c.args.arrivals.now) c.args.limit
met c s =
    let clocks : c.unwrap-clocks.result.now ≡ c.args.clocks.now = search rules in
    let arrivals : c.unwrap-arrivals.result.now ≡ c.args.arrivals.now = search rules in
    rw (clocks, arrivals) at (c.four_met.ensures s)

pub returns-then-four_met : goal.returns-then-four_met
returns-then-four_met c =
    λ s. four_told_lem (lent (goal.at.returns-then-four_met c).Start s) c.args.limit 1 c.four_met.result (right (goal.at.returns-then-four_met c).After-four_met s) (met (goal.at.returns-then-four_met c).After-four_met s) (rw c.if-four_met.true refl)

pub returns-else-four_met : goal.returns-else-four_met
returns-else-four_met c =
    λ s. four_told_lem (lent (goal.at.returns-else-four_met c).Start s) c.args.limit 0 c.four_met.result (right (goal.at.returns-else-four_met c).After-four_met s) (met (goal.at.returns-else-four_met c).After-four_met s) (rw c.if-four_met.false refl)
