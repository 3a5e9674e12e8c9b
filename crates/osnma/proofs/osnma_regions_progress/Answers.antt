-- `osnma::osnma_regions_progress` meets its contract: a wrong length is refused, then the inner call's contract at the lent state.
use mathlib.Core.Path.{◌≡◌, sym}
use mathlib.Core.Bool.{true, ◌&&◌}
use lib.Dec.{eqb}
use lib.ListN.{length}
use Rattle.std.proofs.Common.{rules}
use Rattle.rules.specs.Replay.{blank_core}
use Rattle.rules.specs.State.{State, progress_lent, progress_shaped, blocks_length, dsm_ids}
use Rattle.rules.proofs.Lengths.{progress_sized}
use Rattle.osnma.proofs.Lengths.{long_one, progress_misfit, progress_told_lem}
use Rattle.osnma.proofs.osnma_regions_progress.Goals as goal
use Rattle.osnma.proofs.osnma_regions_progress.Goals.{After-progress_shaped-shaped, Else-not-shaped-out, Start}

-- the state with the lent regions
abbrev lent : Start → State → State
lent c s = progress_lent s c.args.blocks.now c.args.present.now

shaped-is : (c : After-progress_shaped-shaped) (s : State) → progress_shaped (progress_lent s c.args.blocks.now c.args.present.now) ≡ c.progress_shaped-shaped.result
shaped-is c s = sym (c.progress_shaped-shaped.ensures s)

-- every lent length is right
fits : (c : Else-not-shaped-out) (s : State) → (progress_shaped (progress_lent s c.args.blocks.now c.args.present.now) && eqb (length c.args.out.now) 32) ≡ true
fits c s = rw (sym (c.progress_shaped-shaped.ensures s)) (c.if-not-shaped-out.false)

long : (c : Else-not-shaped-out) → ((length c.args.blocks.now ≡ blocks_length) × (length c.args.present.now ≡ dsm_ids)) × (length c.args.out.now ≡ 32)
long c =
    let s = progress_lent blank_core c.args.blocks.now c.args.present.now in
    let l = long_one (progress_shaped s) c.args.out.now 32 (rw (sym (c.progress_shaped-shaped.ensures blank_core)) (c.if-not-shaped-out.false)) in
    (progress_sized s l.0, l.1)

pub returns-then-not-shaped-out : goal.returns-then-not-shaped-out
returns-then-not-shaped-out c =
    λ s. rw c.number.ensures (progress_misfit (lent (goal.at.returns-then-not-shaped-out c).Start s) c.args.out.now (rw (shaped-is (goal.at.returns-then-not-shaped-out c).After-progress_shaped-shaped s) (c.if-not-shaped-out.true)))

pub unwrap-requires : goal.unwrap-requires
unwrap-requires c = c.as_array.ensures.variant.1 (long (goal.at.unwrap-requires c).Else-not-shaped-out).0.0

pub unwrap-requires-2 : goal.unwrap-requires-2
unwrap-requires-2 c = c.as_array-2.ensures.variant.1 (long (goal.at.unwrap-requires-2 c).Else-not-shaped-out).0.1

pub unwrap-requires-3 : goal.unwrap-requires-3
unwrap-requires-3 c = c.as_mut_array.ensures.variant.1 (long (goal.at.unwrap-requires-3 c).Else-not-shaped-out).1

pub returns : goal.returns
returns c =
    let blocks : c.unwrap.result.now ≡ c.args.blocks.now = search rules in
    let present : c.unwrap-2.result.now ≡ c.args.present.now = search rules in
    λ s. progress_told_lem (lent (goal.at.returns c).Start s) c.args.out.now _ (fits (goal.at.returns c).Else-not-shaped-out s) (rw (blocks, present) at (c.read_progress.ensures s))
