-- `osnma::osnma_regions_subframe` meets its contract: a wrong length, or the call past it.
use mathlib.Core.Path.{◌≡◌, sym}
use lib.ListN.{length}
use Rattle.std.proofs.Common.{rules}
use Rattle.regions.specs.Told.{subframe}
use Rattle.rules.specs.Calls.{Subframe}
use Rattle.rules.specs.State.{State, state, shaped, area_length}
use Rattle.rules.proofs.Lengths.{Sized, sized}
use Rattle.call_subframe.proofs.Subframes.{unshaped}
use Rattle.osnma.proofs.Lengths.{long_two}
use Rattle.osnma.proofs.osnma_regions_subframe.Goals as goal
use Rattle.osnma.proofs.osnma_regions_subframe.Goals.{After-shaped-shaped, Else-not-shaped-lent, Start}

abbrev before : Start → State
before c = state c.args.config.now c.args.clocks.now c.args.words.now c.args.stamps.now c.args.blocks.now c.args.headers.now c.args.present.now c.args.since.now c.args.pubkeys.now c.args.offer.now c.args.chain.now c.args.numbers.now c.args.heldkey.now c.args.waiting.now c.args.sets.now c.args.arrivals.now

abbrev brought : Start → Subframe
brought c = subframe c.args.prn c.args.time c.args.marks c.args.bytes.now

-- every lent length is right
long : (c : Else-not-shaped-lent) → Sized (state c.args.config.now c.args.clocks.now c.args.words.now c.args.stamps.now c.args.blocks.now c.args.headers.now c.args.present.now c.args.since.now c.args.pubkeys.now c.args.offer.now c.args.chain.now c.args.numbers.now c.args.heldkey.now c.args.waiting.now c.args.sets.now c.args.arrivals.now) × ((length c.args.area.now ≡ area_length) × (length c.args.bytes.now ≡ 75))
long c =
    let s = state c.args.config.now c.args.clocks.now c.args.words.now c.args.stamps.now c.args.blocks.now c.args.headers.now c.args.present.now c.args.since.now c.args.pubkeys.now c.args.offer.now c.args.chain.now c.args.numbers.now c.args.heldkey.now c.args.waiting.now c.args.sets.now c.args.arrivals.now in
    let l = long_two (shaped s) c.args.area.now c.args.bytes.now area_length 75 (rw (sym c.shaped-shaped.ensures) (c.if-not-shaped-lent.false)) in
    (sized s l.0, l.1)

pub returns-then-not-shaped-lent : goal.returns-then-not-shaped-lent
returns-then-not-shaped-lent c =
    rw (c.number.ensures, c.number-then-not-shaped-lent.ensures) (unshaped (before (goal.at.returns-then-not-shaped-lent c).Start) c.args.area.now (brought (goal.at.returns-then-not-shaped-lent c).Start) (rw (sym c.shaped-shaped.ensures) (c.if-not-shaped-lent.true)))

pub unwrap-requires : goal.unwrap-requires
unwrap-requires c = c.as_mut_array.ensures.variant.1 (long (goal.at.unwrap-requires c).Else-not-shaped-lent).0.config

pub unwrap-requires-2 : goal.unwrap-requires-2
unwrap-requires-2 c = c.as_mut_array-2.ensures.variant.1 (long (goal.at.unwrap-requires-2 c).Else-not-shaped-lent).0.clocks

pub unwrap-requires-3 : goal.unwrap-requires-3
unwrap-requires-3 c = c.as_array.ensures.variant.1 (long (goal.at.unwrap-requires-3 c).Else-not-shaped-lent).0.words

pub unwrap-requires-4 : goal.unwrap-requires-4
unwrap-requires-4 c = c.as_array-2.ensures.variant.1 (long (goal.at.unwrap-requires-4 c).Else-not-shaped-lent).0.stamps

pub unwrap-requires-5 : goal.unwrap-requires-5
unwrap-requires-5 c = c.as_mut_array-3.ensures.variant.1 (long (goal.at.unwrap-requires-5 c).Else-not-shaped-lent).0.blocks

pub unwrap-requires-6 : goal.unwrap-requires-6
unwrap-requires-6 c = c.as_mut_array-4.ensures.variant.1 (long (goal.at.unwrap-requires-6 c).Else-not-shaped-lent).0.headers

pub unwrap-requires-7 : goal.unwrap-requires-7
unwrap-requires-7 c = c.as_mut_array-5.ensures.variant.1 (long (goal.at.unwrap-requires-7 c).Else-not-shaped-lent).0.present

pub unwrap-requires-8 : goal.unwrap-requires-8
unwrap-requires-8 c = c.as_mut_array-6.ensures.variant.1 (long (goal.at.unwrap-requires-8 c).Else-not-shaped-lent).0.since

pub unwrap-requires-9 : goal.unwrap-requires-9
unwrap-requires-9 c = c.as_mut_array-7.ensures.variant.1 (long (goal.at.unwrap-requires-9 c).Else-not-shaped-lent).0.pubkeys

pub unwrap-requires-10 : goal.unwrap-requires-10
unwrap-requires-10 c = c.as_mut_array-8.ensures.variant.1 (long (goal.at.unwrap-requires-10 c).Else-not-shaped-lent).0.offer

pub unwrap-requires-11 : goal.unwrap-requires-11
unwrap-requires-11 c = c.as_array-3.ensures.variant.1 (long (goal.at.unwrap-requires-11 c).Else-not-shaped-lent).0.chain

pub unwrap-requires-12 : goal.unwrap-requires-12
unwrap-requires-12 c = c.as_mut_array-9.ensures.variant.1 (long (goal.at.unwrap-requires-12 c).Else-not-shaped-lent).0.numbers

pub unwrap-requires-13 : goal.unwrap-requires-13
unwrap-requires-13 c = c.as_mut_array-10.ensures.variant.1 (long (goal.at.unwrap-requires-13 c).Else-not-shaped-lent).0.heldkey

pub unwrap-requires-14 : goal.unwrap-requires-14
unwrap-requires-14 c = c.as_mut_array-11.ensures.variant.1 (long (goal.at.unwrap-requires-14 c).Else-not-shaped-lent).0.waiting

pub unwrap-requires-15 : goal.unwrap-requires-15
unwrap-requires-15 c = c.as_mut_array-12.ensures.variant.1 (long (goal.at.unwrap-requires-15 c).Else-not-shaped-lent).0.sets

pub unwrap-requires-16 : goal.unwrap-requires-16
unwrap-requires-16 c = c.as_mut_array-13.ensures.variant.1 (long (goal.at.unwrap-requires-16 c).Else-not-shaped-lent).0.arrivals

pub unwrap-requires-17 : goal.unwrap-requires-17
unwrap-requires-17 c = c.as_mut_array-14.ensures.variant.1 (long (goal.at.unwrap-requires-17 c).Else-not-shaped-lent).1.0

pub unwrap-requires-18 : goal.unwrap-requires-18
unwrap-requires-18 c = c.as_array-4.ensures.variant.1 (long (goal.at.unwrap-requires-18 c).Else-not-shaped-lent).1.1

pub returns-in-Ok : goal.returns-in-Ok
returns-in-Ok c =
    let config : c.unwrap.result.now ≡ c.args.config.now = search rules in
    let clocks : c.unwrap-2.result.now ≡ c.args.clocks.now = search rules in
    let words : c.unwrap-3.result.now ≡ c.args.words.now = search rules in
    let stamps : c.unwrap-4.result.now ≡ c.args.stamps.now = search rules in
    let blocks : c.unwrap-5.result.now ≡ c.args.blocks.now = search rules in
    let headers : c.unwrap-6.result.now ≡ c.args.headers.now = search rules in
    let present : c.unwrap-7.result.now ≡ c.args.present.now = search rules in
    let since : c.unwrap-8.result.now ≡ c.args.since.now = search rules in
    let pubkeys : c.unwrap-9.result.now ≡ c.args.pubkeys.now = search rules in
    let offer : c.unwrap-10.result.now ≡ c.args.offer.now = search rules in
    let chain : c.unwrap-11.result.now ≡ c.args.chain.now = search rules in
    let numbers : c.unwrap-12.result.now ≡ c.args.numbers.now = search rules in
    let heldkey : c.unwrap-13.result.now ≡ c.args.heldkey.now = search rules in
    let waiting : c.unwrap-14.result.now ≡ c.args.waiting.now = search rules in
    let sets : c.unwrap-15.result.now ≡ c.args.sets.now = search rules in
    let arrivals : c.unwrap-16.result.now ≡ c.args.arrivals.now = search rules in
    let area : c.unwrap-17.result.now ≡ c.args.area.now = search rules in
    let bytes : c.unwrap-18.result.now ≡ c.args.bytes.now = search rules in
    rw (c.answer_number.ensures) (rw (c.in-Ok.is) at (rw (config, clocks, words, stamps, blocks, headers, present, since, pubkeys, offer, chain, numbers, heldkey, waiting, sets, arrivals, area, bytes) at c.take_subframe-r.ensures))

pub returns-in-Err : goal.returns-in-Err
returns-in-Err c =
    let config : c.unwrap.result.now ≡ c.args.config.now = search rules in
    let clocks : c.unwrap-2.result.now ≡ c.args.clocks.now = search rules in
    let words : c.unwrap-3.result.now ≡ c.args.words.now = search rules in
    let stamps : c.unwrap-4.result.now ≡ c.args.stamps.now = search rules in
    let blocks : c.unwrap-5.result.now ≡ c.args.blocks.now = search rules in
    let headers : c.unwrap-6.result.now ≡ c.args.headers.now = search rules in
    let present : c.unwrap-7.result.now ≡ c.args.present.now = search rules in
    let since : c.unwrap-8.result.now ≡ c.args.since.now = search rules in
    let pubkeys : c.unwrap-9.result.now ≡ c.args.pubkeys.now = search rules in
    let offer : c.unwrap-10.result.now ≡ c.args.offer.now = search rules in
    let chain : c.unwrap-11.result.now ≡ c.args.chain.now = search rules in
    let numbers : c.unwrap-12.result.now ≡ c.args.numbers.now = search rules in
    let heldkey : c.unwrap-13.result.now ≡ c.args.heldkey.now = search rules in
    let waiting : c.unwrap-14.result.now ≡ c.args.waiting.now = search rules in
    let sets : c.unwrap-15.result.now ≡ c.args.sets.now = search rules in
    let arrivals : c.unwrap-16.result.now ≡ c.args.arrivals.now = search rules in
    let area : c.unwrap-17.result.now ≡ c.args.area.now = search rules in
    let bytes : c.unwrap-18.result.now ≡ c.args.bytes.now = search rules in
    rw (c.answer_number.ensures, c.number-in-Err.ensures) (rw (c.in-Err.is) at (rw (config, clocks, words, stamps, blocks, headers, present, since, pubkeys, offer, chain, numbers, heldkey, waiting, sets, arrivals, area, bytes) at c.take_subframe-r.ensures))
