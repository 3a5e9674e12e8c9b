-- `osnma::osnma_regions_start` meets its contract: a refusal changes nothing, and an accepted start writes every part of the state.
use mathlib.Core.Path.{◌≡◌}
use mathlib.Core.Bool.{true, ◌&&◌}
use lib.Dec.{eqb}
use lib.ListN.{length}
use Rattle.std.proofs.Common.{rules}
use Rattle.rules.specs.Calls as S
use Rattle.rules.specs.State.{State, state, shaped}
use Rattle.rules.proofs.Lengths.{Sized, sized}
use Rattle.osnma.proofs.Lengths.{long_three}
use Rattle.call_start.proofs.Started.{refused, accepted, all-written}
use Rattle.osnma.proofs.osnma_regions_start.Goals as goal
use Rattle.osnma.proofs.osnma_regions_start.Goals.{Start}

-- the state of the sixteen lent regions
abbrev whole : Start → State
whole c = state c.args.config.now c.args.clocks.now c.args.words.now c.args.stamps.now c.args.blocks.now c.args.headers.now c.args.present.now c.args.since.now c.args.pubkeys.now c.args.offer.now c.args.chain.now c.args.numbers.now c.args.heldkey.now c.args.waiting.now c.args.sets.now c.args.arrivals.now

-- the settings that are lent
abbrev given : Start → S.Start
given c = record { ns = c.args.ns; id = c.args.id; type = c.args.kind; maclt = c.args.maclt; marks = c.args.marks.now; root = c.args.root.now; key = c.args.pubkey.now }

-- right lengths
long : (c : Start) → (shaped (whole c) && (eqb (length c.args.marks.now) 28 && (eqb (length c.args.root.now) 32 && eqb (length c.args.pubkey.now) 67))) ≡ true
    → Sized (whole c) × ((length c.args.marks.now ≡ 28) × ((length c.args.root.now ≡ 32) × (length c.args.pubkey.now ≡ 67)))
long c e =
    let l = long_three (shaped (whole c)) c.args.marks.now c.args.root.now c.args.pubkey.now 28 32 67 e in
    (sized (whole c) l.0, l.1)

pub start_refusal-requires : goal.start_refusal-requires
start_refusal-requires c =
    λ e. (long_three (shaped (whole (goal.at.start_refusal-requires c).Start)) c.args.marks.now c.args.root.now c.args.pubkey.now 28 32 67 (rw (← c.shaped-shaped.ensures) e)).1.0

pub returns-in-Err : goal.returns-in-Err
unfolding S.start_lengths
returns-in-Err c =
    rw c.number.ensures
    (refused (whole (goal.at.returns-in-Err c).Start) (given (goal.at.returns-in-Err c).Start) c.in-Err.refusal (c.in-Err.ensures.0 (whole (goal.at.returns-in-Err c).Start) c.args.maclt c.args.root.now c.args.pubkey.now (rw (← c.shaped-shaped.ensures))))

pub unwrap-requires : goal.unwrap-requires
unwrap-requires c = c.as_mut_array.ensures.variant.1 (long (goal.at.unwrap-requires c).Start (rw (← c.shaped-shaped.ensures) c.in_default.ensures.1.0)).0.config

pub unwrap-requires-2 : goal.unwrap-requires-2
unwrap-requires-2 c = c.as_mut_array-2.ensures.variant.1 (long (goal.at.unwrap-requires-2 c).Start (rw (← c.shaped-shaped.ensures) c.in_default.ensures.1.0)).0.clocks

pub unwrap-requires-3 : goal.unwrap-requires-3
unwrap-requires-3 c = c.as_mut_array-3.ensures.variant.1 (long (goal.at.unwrap-requires-3 c).Start (rw (← c.shaped-shaped.ensures) c.in_default.ensures.1.0)).0.words

pub unwrap-requires-4 : goal.unwrap-requires-4
unwrap-requires-4 c = c.as_mut_array-4.ensures.variant.1 (long (goal.at.unwrap-requires-4 c).Start (rw (← c.shaped-shaped.ensures) c.in_default.ensures.1.0)).0.stamps

pub unwrap-requires-5 : goal.unwrap-requires-5
unwrap-requires-5 c = c.as_mut_array-5.ensures.variant.1 (long (goal.at.unwrap-requires-5 c).Start (rw (← c.shaped-shaped.ensures) c.in_default.ensures.1.0)).0.blocks

pub unwrap-requires-6 : goal.unwrap-requires-6
unwrap-requires-6 c = c.as_mut_array-6.ensures.variant.1 (long (goal.at.unwrap-requires-6 c).Start (rw (← c.shaped-shaped.ensures) c.in_default.ensures.1.0)).0.headers

pub unwrap-requires-7 : goal.unwrap-requires-7
unwrap-requires-7 c = c.as_mut_array-7.ensures.variant.1 (long (goal.at.unwrap-requires-7 c).Start (rw (← c.shaped-shaped.ensures) c.in_default.ensures.1.0)).0.present

pub unwrap-requires-8 : goal.unwrap-requires-8
unwrap-requires-8 c = c.as_mut_array-8.ensures.variant.1 (long (goal.at.unwrap-requires-8 c).Start (rw (← c.shaped-shaped.ensures) c.in_default.ensures.1.0)).0.since

pub unwrap-requires-9 : goal.unwrap-requires-9
unwrap-requires-9 c = c.as_array.ensures.variant.1 (long (goal.at.unwrap-requires-9 c).Start (rw (← c.shaped-shaped.ensures) c.in_default.ensures.1.0)).1.0

pub unwrap-requires-10 : goal.unwrap-requires-10
unwrap-requires-10 c = c.as_array-2.ensures.variant.1 (long (goal.at.unwrap-requires-10 c).Start (rw (← c.shaped-shaped.ensures) c.in_default.ensures.1.0)).1.1.0

pub unwrap-requires-11 : goal.unwrap-requires-11
unwrap-requires-11 c = c.as_mut_array-9.ensures.variant.1 (long (goal.at.unwrap-requires-11 c).Start (rw (← c.shaped-shaped.ensures) c.in_default.ensures.1.0)).0.pubkeys

pub unwrap-requires-12 : goal.unwrap-requires-12
unwrap-requires-12 c = c.as_mut_array-10.ensures.variant.1 (long (goal.at.unwrap-requires-12 c).Start (rw (← c.shaped-shaped.ensures) c.in_default.ensures.1.0)).0.offer

pub unwrap-requires-13 : goal.unwrap-requires-13
unwrap-requires-13 c = c.as_mut_array-11.ensures.variant.1 (long (goal.at.unwrap-requires-13 c).Start (rw (← c.shaped-shaped.ensures) c.in_default.ensures.1.0)).0.chain

pub unwrap-requires-14 : goal.unwrap-requires-14
unwrap-requires-14 c = c.as_mut_array-12.ensures.variant.1 (long (goal.at.unwrap-requires-14 c).Start (rw (← c.shaped-shaped.ensures) c.in_default.ensures.1.0)).0.numbers

pub unwrap-requires-15 : goal.unwrap-requires-15
unwrap-requires-15 c = c.as_mut_array-13.ensures.variant.1 (long (goal.at.unwrap-requires-15 c).Start (rw (← c.shaped-shaped.ensures) c.in_default.ensures.1.0)).0.heldkey

pub unwrap-requires-16 : goal.unwrap-requires-16
unwrap-requires-16 c = c.as_mut_array-14.ensures.variant.1 (long (goal.at.unwrap-requires-16 c).Start (rw (← c.shaped-shaped.ensures) c.in_default.ensures.1.0)).0.waiting

pub unwrap-requires-17 : goal.unwrap-requires-17
unwrap-requires-17 c = c.as_mut_array-15.ensures.variant.1 (long (goal.at.unwrap-requires-17 c).Start (rw (← c.shaped-shaped.ensures) c.in_default.ensures.1.0)).0.sets

pub unwrap-requires-18 : goal.unwrap-requires-18
unwrap-requires-18 c = c.as_mut_array-16.ensures.variant.1 (long (goal.at.unwrap-requires-18 c).Start (rw (← c.shaped-shaped.ensures) c.in_default.ensures.1.0)).0.arrivals

pub unwrap-requires-19 : goal.unwrap-requires-19
unwrap-requires-19 c = c.as_array-3.ensures.variant.1 (long (goal.at.unwrap-requires-19 c).Start (rw (← c.shaped-shaped.ensures) c.in_default.ensures.1.0)).1.1.1

pub returns : goal.returns
unfolding S.start_lengths
returns c =
    let marks : c.unwrap-9.result.now ≡ c.args.marks.now = search rules in
    let root : c.unwrap-10.result.now ≡ c.args.root.now = search rules in
    let pubkey : c.unwrap-19.result.now ≡ c.args.pubkey.now = search rules in
    let t = rw (marks, root) at c.install_settings.ensures in
    let k = rw pubkey at c.install_key.ensures in
    accepted (whole (goal.at.returns c).Start) (given (goal.at.returns c).Start)
    (c.in_default.ensures.0 (whole (goal.at.returns c).Start) c.args.maclt c.args.root.now c.args.pubkey.now (rw (← c.shaped-shaped.ensures))) _
    (all-written (given (goal.at.returns c).Start) _ _ _ _ _ _ _ _ _ t.0 t.1 k.0 k.1)
