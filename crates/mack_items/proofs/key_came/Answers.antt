-- `mack_items::key_came` meets its contract: the key ends inside the section.
use Rattle.mack.proofs.Places.{key_inside}
use Rattle.rules.specs.Received.{key_came}
use Rattle.mack_items.proofs.key_came.Goals as goal

pub bits_came-requires : goal.bits_came-requires
bits_came-requires c =
    rw c.key_place.ensures (key_inside c.args.c c.requires.0 c.args.b c.requires.1.0 c.requires.1.1)

pub returns : goal.returns
unfolding key_came
returns c = rw (← c.key_place.ensures) c.bits_came.ensures
