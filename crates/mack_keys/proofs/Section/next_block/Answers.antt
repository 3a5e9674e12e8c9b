-- `mack_keys::next_block` meets its contract: a block whose key is lost changes nothing.
use mathlib.Core.Path.{◌≡◌, refl, sym, ◌∙◌}
use mathlib.Core.Bool.{false}
use native.Mathlib.Omega.{arith}
use Rattle.rules.specs.Received.{key_came}
use Rattle.mack_keys.proofs.Places.{keys_fit}
use Rattle.mack_keys.proofs.Judged.{lost_spare, lost_key, came_lost}
use Rattle.mack_keys.proofs.Section.next_block.Goals as goal

pub key_came-requires : goal.key_came-requires
key_came-requires c = (keys_fit c.args.self.c c.requires.0, c.requires.1.1.1)

pub block_proved-requires : goal.block_proved-requires
block_proved-requires c = record { sound = c.requires; came = sym c.key_came.ensures ∙ c.if-key_came.true }

pub returns-then-spare-ne0 : goal.returns-then-spare-ne0
returns-then-spare-ne0 c =
    let g = c.args in
    let s = g.self in
    let lost : key_came s.c s.marks g.b ≡ false = sym c.key_came.ensures ∙ c.if-key_came.false in
    record {
      gives = λ m p q. lost_spare s.c s.time s.prn s.first s.marks g.top.slot g.b m g.key.now lost g.spare q c.if-spare-ne0.true;
      is_refused = omega arith;
      key_stays = refl;
    }

pub returns : goal.returns
returns c =
    let g = c.args in
    let s = g.self in
    let lost : key_came s.c s.marks g.b ≡ false = sym c.key_came.ensures ∙ c.if-key_came.false in
    record {
      gives = λ m p q. lost_key s.c s.time s.prn s.first s.marks g.top.slot g.b m g.key.now lost g.spare q c.if-spare-ne0.false;
      slot_high = c.requires.1.1.0;
      on_way = λ x. x;
      keeps = λ low x. x;
      own = λ x k. absurd (came_lost _ k lost);
      own_stays = λ x. refl;
    }
