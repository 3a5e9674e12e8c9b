-- `osnma::osnma_regions_read_set` meets its contract: a wrong length is refused, then the inner call's contract at the lent state.
use mathlib.Core.Path.{◌≡◌, sym}
use lib.ListN.{length}
use Rattle.std.proofs.Common.{rules}
use Rattle.rules.specs.Replay.{blank_core}
use Rattle.rules.specs.State.{State, set_lent, set_shaped, sets_length, arrivals_length}
use Rattle.rules.proofs.Lengths.{set_sized}
use Rattle.osnma.proofs.Lengths.{long_one, set_misfit}
use Rattle.osnma.proofs.osnma_regions_read_set.Goals as goal
use Rattle.osnma.proofs.osnma_regions_read_set.Goals.{After-set_shaped-shaped, Else-not-shaped-out, Start}

-- the state with the lent regions
abbrev lent : Start → State → State
lent c s = set_lent s c.args.sets.now c.args.arrivals.now

shaped-is : (c : After-set_shaped-shaped) (s : State) → set_shaped (set_lent s c.args.sets.now c.args.arrivals.now) ≡ c.set_shaped-shaped.result
shaped-is c s = sym (c.set_shaped-shaped.ensures s)

-- every lent length is right
long : (c : Else-not-shaped-out) → ((length c.args.sets.now ≡ sets_length) × (length c.args.arrivals.now ≡ arrivals_length)) × (length c.args.out.now ≡ 69)
long c =
    let s = set_lent blank_core c.args.sets.now c.args.arrivals.now in
    let l = long_one (set_shaped s) c.args.out.now 69 (rw (sym (c.set_shaped-shaped.ensures blank_core)) (c.if-not-shaped-out.false)) in
    (set_sized s l.0, l.1)

pub returns-then-not-shaped-out : goal.returns-then-not-shaped-out
returns-then-not-shaped-out c =
    λ s. rw c.number.ensures (set_misfit (lent (goal.at.returns-then-not-shaped-out c).Start s) c.args.prn c.args.out.now (rw (shaped-is (goal.at.returns-then-not-shaped-out c).After-set_shaped-shaped s) (c.if-not-shaped-out.true)))

pub unwrap-requires : goal.unwrap-requires
unwrap-requires c = c.as_array.ensures.variant.1 (long (goal.at.unwrap-requires c).Else-not-shaped-out).0.0

pub unwrap-requires-2 : goal.unwrap-requires-2
unwrap-requires-2 c = c.as_array-2.ensures.variant.1 (long (goal.at.unwrap-requires-2 c).Else-not-shaped-out).0.1

pub unwrap-requires-3 : goal.unwrap-requires-3
unwrap-requires-3 c = c.as_mut_array.ensures.variant.1 (long (goal.at.unwrap-requires-3 c).Else-not-shaped-out).1

pub returns-in-Ok : goal.returns-in-Ok
returns-in-Ok c =
    let sets : c.unwrap.result.now ≡ c.args.sets.now = search rules in
    let arrivals : c.unwrap-2.result.now ≡ c.args.arrivals.now = search rules in
    let out : c.unwrap-3.result.now ≡ c.args.out.now = search rules in
    λ s. rw (sets, arrivals, out) at (c.in-Ok.ensures s)

pub returns-in-Err : goal.returns-in-Err
returns-in-Err c =
    let sets : c.unwrap.result.now ≡ c.args.sets.now = search rules in
    let arrivals : c.unwrap-2.result.now ≡ c.args.arrivals.now = search rules in
    let out : c.unwrap-3.result.now ≡ c.args.out.now = search rules in
    λ s. rw c.number-in-Err.ensures (rw (sets, arrivals, out) at (c.in-Err.ensures s))
