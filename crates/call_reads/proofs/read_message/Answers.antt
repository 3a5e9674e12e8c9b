-- `call_reads::read_message` meets its contract: each part of the region goes to the bytes lent for it.
use mathlib.Core.Path.{◌≡◌, sym, ◌∙◌}
use lib.ListN.{length}
use Rattle.laws.proofs.Splice.{length_part, splice_whole}
use Rattle.std.proofs.Common.{rules}
use Rattle.laws.specs.Lists.{part}
use Rattle.rules.specs.Kroot.{offer_id, offer_message, offer_signature}
use Rattle.call_reads.proofs.Answers.{offer_missing, offer_found}
use Rattle.call_reads.proofs.read_message.Goals as goal

pub returns-then-offer-ne1 : goal.returns-then-offer-ne1
returns-then-offer-ne1 c =
    let g = c.args in
    λ s.
    offer_missing s g.pubkeys.now g.offer.now g.message.now g.signature.now g.pubkey.now ((search rules, search rules), (search rules, (search rules, search rules))) c.if-offer-ne1.true

-- the lent bytes are those of the region
pub returns : goal.returns
unfolding offer_id offer_message offer_signature
returns c =
    let g = c.args in
    let lm = length_part g.offer.now 2 45 (search rules) in
    let ln = length_part g.offer.now 47 132 (search rules) in
    let wm : length g.message.now ≡ 45 = search rules in
    let wn : length g.signature.now ≡ 132 = search rules in
    λ s.
    offer_found s g.pubkeys.now g.offer.now g.message.now g.signature.now g.pubkey.now ((search rules, search rules), (search rules, (search rules, search rules)))
    c.if-offer-ne1.false
    c.copy_part.new.dst
    c.copy_part-2.new.dst
    c.key_bytes.new.out
    c.key_type-kind.result
    (c.copy_part.ensures ∙ splice_whole g.message.now (part g.offer.now 2 45) (lm ∙ sym wm))
    (c.copy_part-2.ensures ∙ splice_whole g.signature.now (part g.offer.now 47 132) (ln ∙ sym wn))
    c.key_bytes.ensures
    c.key_type-kind.ensures
