-- `osnma::osnma_regions_read_message` meets its contract: a wrong length is refused, then the inner call's contract at the lent state.
use mathlib.Core.Path.{◌≡◌, sym}
use lib.ListN.{length}
use Rattle.std.proofs.Common.{rules}
use Rattle.rules.specs.Replay.{blank_core}
use Rattle.rules.specs.State.{State, offer_lent, offer_shaped, pubkeys_length, offer_length}
use Rattle.rules.proofs.Lengths.{message_sized}
use Rattle.osnma.proofs.Lengths.{long_three, message_misfit}
use Rattle.osnma.proofs.osnma_regions_read_message.Goals as goal
use Rattle.osnma.proofs.osnma_regions_read_message.Goals.{After-offer_shaped-shaped, Else-not-shaped-message, Start}

-- the state with the lent regions
abbrev lent : Start → State → State
lent c s = offer_lent s c.args.pubkeys.now c.args.offer.now

shaped-is : (c : After-offer_shaped-shaped) (s : State) → offer_shaped (offer_lent s c.args.pubkeys.now c.args.offer.now) ≡ c.offer_shaped-shaped.result
shaped-is c s = sym (c.offer_shaped-shaped.ensures s)

-- every lent length is right
long : (c : Else-not-shaped-message) → ((length c.args.pubkeys.now ≡ pubkeys_length) × (length c.args.offer.now ≡ offer_length)) × ((length c.args.message.now ≡ 45) × ((length c.args.signature.now ≡ 132) × (length c.args.pubkey.now ≡ 67)))
long c =
    let s = offer_lent blank_core c.args.pubkeys.now c.args.offer.now in
    let l = long_three (offer_shaped s) c.args.message.now c.args.signature.now c.args.pubkey.now 45 132 67 (rw (sym (c.offer_shaped-shaped.ensures blank_core)) (c.if-not-shaped-message.false)) in
    (message_sized s l.0, l.1)

pub returns-then-not-shaped-message : goal.returns-then-not-shaped-message
returns-then-not-shaped-message c =
    λ s. rw c.number.ensures (message_misfit (lent (goal.at.returns-then-not-shaped-message c).Start s) c.args.message.now c.args.signature.now c.args.pubkey.now (rw (shaped-is (goal.at.returns-then-not-shaped-message c).After-offer_shaped-shaped s) (c.if-not-shaped-message.true)))

pub unwrap-requires : goal.unwrap-requires
unwrap-requires c = c.as_array.ensures.variant.1 (long (goal.at.unwrap-requires c).Else-not-shaped-message).0.0

pub unwrap-requires-2 : goal.unwrap-requires-2
unwrap-requires-2 c = c.as_array-2.ensures.variant.1 (long (goal.at.unwrap-requires-2 c).Else-not-shaped-message).0.1

pub unwrap-requires-3 : goal.unwrap-requires-3
unwrap-requires-3 c = c.as_mut_array.ensures.variant.1 (long (goal.at.unwrap-requires-3 c).Else-not-shaped-message).1.0

pub unwrap-requires-4 : goal.unwrap-requires-4
unwrap-requires-4 c = c.as_mut_array-2.ensures.variant.1 (long (goal.at.unwrap-requires-4 c).Else-not-shaped-message).1.1.0

pub unwrap-requires-5 : goal.unwrap-requires-5
unwrap-requires-5 c = c.as_mut_array-3.ensures.variant.1 (long (goal.at.unwrap-requires-5 c).Else-not-shaped-message).1.1.1

pub returns-in-Ok : goal.returns-in-Ok
returns-in-Ok c =
    let pubkeys : c.unwrap.result.now ≡ c.args.pubkeys.now = search rules in
    let offer : c.unwrap-2.result.now ≡ c.args.offer.now = search rules in
    let message : c.unwrap-3.result.now ≡ c.args.message.now = search rules in
    let signature : c.unwrap-4.result.now ≡ c.args.signature.now = search rules in
    let pubkey : c.unwrap-5.result.now ≡ c.args.pubkey.now = search rules in
    λ s. rw (pubkeys, offer, message, signature, pubkey) at (c.in-Ok.ensures s)

pub returns-in-Err : goal.returns-in-Err
returns-in-Err c =
    let pubkeys : c.unwrap.result.now ≡ c.args.pubkeys.now = search rules in
    let offer : c.unwrap-2.result.now ≡ c.args.offer.now = search rules in
    let message : c.unwrap-3.result.now ≡ c.args.message.now = search rules in
    let signature : c.unwrap-4.result.now ≡ c.args.signature.now = search rules in
    let pubkey : c.unwrap-5.result.now ≡ c.args.pubkey.now = search rules in
    λ s. rw c.number-in-Err.ensures (rw (pubkeys, offer, message, signature, pubkey) at (c.in-Err.ensures s))
