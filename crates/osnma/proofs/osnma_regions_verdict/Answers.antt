-- `osnma::osnma_regions_verdict` meets its contract: a wrong length is refused, then the inner call's contract at the lent state.
use mathlib.Core.Path.{◌≡◌, sym}
use lib.ListN.{length}
use Rattle.std.proofs.Common.{rules}
use Rattle.rules.specs.Replay.{blank_core}
use Rattle.rules.specs.State.{State, verdict_lent, verdict_shaped}
use Rattle.rules.specs.Verdict.{Verdict}
use Rattle.rules.proofs.Lengths.{VerdictSized, verdict_sized}
use Rattle.osnma.proofs.Lengths.{long_two, verdict_misfit}
use Rattle.osnma.proofs.osnma_regions_verdict.Goals as goal
use Rattle.osnma.proofs.osnma_regions_verdict.Goals.{After-verdict_shaped-shaped, Else-not-shaped-message, Start}

-- the verdict that is lent
abbrev verdict : Start → Verdict
verdict c =
    record { good = c.args.good; id = c.args.id; message = c.args.message.now; signature = c.args.signature.now }

-- the state with the lent regions
abbrev lent : Start → State → State
lent c s =
    verdict_lent s c.args.config.now c.args.pubkeys.now c.args.offer.now c.args.chain.now c.args.numbers.now c.args.heldkey.now c.args.waiting.now c.args.arrivals.now

shaped-is : (c : After-verdict_shaped-shaped) (s : State) → verdict_shaped (verdict_lent s c.args.config.now c.args.pubkeys.now c.args.offer.now c.args.chain.now c.args.numbers.now c.args.heldkey.now c.args.waiting.now c.args.arrivals.now) ≡ c.verdict_shaped-shaped.result
shaped-is c s = sym (c.verdict_shaped-shaped.ensures s)

-- every lent length is right
long : (c : Else-not-shaped-message) → VerdictSized (verdict_lent blank_core c.args.config.now c.args.pubkeys.now c.args.offer.now c.args.chain.now c.args.numbers.now c.args.heldkey.now c.args.waiting.now c.args.arrivals.now) × ((length c.args.message.now ≡ 45) × (length c.args.signature.now ≡ 132))
long c =
    let s = verdict_lent blank_core c.args.config.now c.args.pubkeys.now c.args.offer.now c.args.chain.now c.args.numbers.now c.args.heldkey.now c.args.waiting.now c.args.arrivals.now in
    let l = long_two (verdict_shaped s) c.args.message.now c.args.signature.now 45 132 (rw (sym (c.verdict_shaped-shaped.ensures blank_core)) (c.if-not-shaped-message.false)) in
    (verdict_sized s l.0, l.1)

pub returns-then-not-shaped-message : goal.returns-then-not-shaped-message
returns-then-not-shaped-message c =
    λ s. rw c.number.ensures (verdict_misfit (lent (goal.at.returns-then-not-shaped-message c).Start s) (verdict (goal.at.returns-then-not-shaped-message c).Start) (rw (shaped-is (goal.at.returns-then-not-shaped-message c).After-verdict_shaped-shaped s) (c.if-not-shaped-message.true)))

pub unwrap-requires : goal.unwrap-requires
unwrap-requires c = c.as_array.ensures.variant.1 (long (goal.at.unwrap-requires c).Else-not-shaped-message).0.config

pub unwrap-requires-2 : goal.unwrap-requires-2
unwrap-requires-2 c = c.as_mut_array.ensures.variant.1 (long (goal.at.unwrap-requires-2 c).Else-not-shaped-message).0.pubkeys

pub unwrap-requires-3 : goal.unwrap-requires-3
unwrap-requires-3 c = c.as_mut_array-2.ensures.variant.1 (long (goal.at.unwrap-requires-3 c).Else-not-shaped-message).0.offer

pub unwrap-requires-4 : goal.unwrap-requires-4
unwrap-requires-4 c = c.as_mut_array-3.ensures.variant.1 (long (goal.at.unwrap-requires-4 c).Else-not-shaped-message).0.chain

pub unwrap-requires-5 : goal.unwrap-requires-5
unwrap-requires-5 c = c.as_mut_array-4.ensures.variant.1 (long (goal.at.unwrap-requires-5 c).Else-not-shaped-message).0.numbers

pub unwrap-requires-6 : goal.unwrap-requires-6
unwrap-requires-6 c = c.as_mut_array-5.ensures.variant.1 (long (goal.at.unwrap-requires-6 c).Else-not-shaped-message).0.heldkey

pub unwrap-requires-7 : goal.unwrap-requires-7
unwrap-requires-7 c = c.as_mut_array-6.ensures.variant.1 (long (goal.at.unwrap-requires-7 c).Else-not-shaped-message).0.waiting

pub unwrap-requires-8 : goal.unwrap-requires-8
unwrap-requires-8 c = c.as_mut_array-7.ensures.variant.1 (long (goal.at.unwrap-requires-8 c).Else-not-shaped-message).0.arrivals

pub unwrap-requires-9 : goal.unwrap-requires-9
unwrap-requires-9 c = c.as_array-2.ensures.variant.1 (long (goal.at.unwrap-requires-9 c).Else-not-shaped-message).1.0

pub unwrap-requires-10 : goal.unwrap-requires-10
unwrap-requires-10 c = c.as_array-3.ensures.variant.1 (long (goal.at.unwrap-requires-10 c).Else-not-shaped-message).1.1

pub returns : goal.returns
returns c =
    let config : c.unwrap.result.now ≡ c.args.config.now = search rules in
    let pubkeys : c.unwrap-2.result.now ≡ c.args.pubkeys.now = search rules in
    let offer : c.unwrap-3.result.now ≡ c.args.offer.now = search rules in
    let chain : c.unwrap-4.result.now ≡ c.args.chain.now = search rules in
    let numbers : c.unwrap-5.result.now ≡ c.args.numbers.now = search rules in
    let heldkey : c.unwrap-6.result.now ≡ c.args.heldkey.now = search rules in
    let waiting : c.unwrap-7.result.now ≡ c.args.waiting.now = search rules in
    let arrivals : c.unwrap-8.result.now ≡ c.args.arrivals.now = search rules in
    let message : c.unwrap-9.result.now ≡ c.args.message.now = search rules in
    let signature : c.unwrap-10.result.now ≡ c.args.signature.now = search rules in
    λ s. rw c.answer_number.ensures (rw (config, pubkeys, offer, chain, numbers, heldkey, waiting, arrivals, message, signature) at (c.judge_verdict-judged.ensures s))
