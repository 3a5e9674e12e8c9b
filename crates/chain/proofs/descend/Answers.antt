-- `chain::descend` meets its contract: the way is walked in two parts, and the key of the stop stays at hand.
use mathlib.Core.Path.{◌≡◌, refl}
use borrow.Author.Rules.{rules}
use lib.ListN.{length}
use Rattle.chain.proofs.Steps.{walked_key, two_parts}
use Rattle.chain.proofs.descend.Goals as goal

pub returns : goal.returns
returns c =
    let g = c.args in
    let w = c.requires.0.width_fits in
    let n : length g.top ≡ 32 = search rules in (
      two_parts g.c g.high g.stop g.low g.top c.key_of_slot.new.key c.key_of_slot-2.new.key g.end _ w n c.requires.1.1.0 c.requires.1.1.1
          c.key_of_slot.ensures c.key_of_slot-2.ensures c.equal_part.ensures,
      (record { not_above = c.requires.1.1.1; key_is = walked_key g.c g.high g.stop g.top _ w n c.key_of_slot.ensures }, refl),
    )
