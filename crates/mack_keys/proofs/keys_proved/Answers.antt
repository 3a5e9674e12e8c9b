-- `mack_keys::keys_proved` meets its contract: after some turns it has what so many blocks give, keys met from the highest of them, and the cursor
use mathlib.Core.Path.{sym, ap, ◌∙◌}
use Prim.Native.Nat.{◌+◌}
use native.Mathlib.Omega.{arith}
use borrow.Author.Rules.{rules}
use lib.Seq.{length-take-le}
use Rattle.chain.proofs.Steps.{met_here}
use Rattle.mack.specs.declared.Block.{Block}
use Rattle.mack.proofs.Places.{first_block}
use Rattle.mack_keys.proofs.Places.{keys_fit}
use Rattle.mack_keys.proofs.Judged.{no_block, one_more, all_refused, all_blocks, own_on}
use Rattle.mack_keys.proofs.keys_proved.Goals as goal

pub loop-done-init : goal.loop-done-init
loop-done-init c =
    let g = c.args in
    let here = met_here g.c g.slot g.key.now in
    record {
      hands = no_block _ _ _ _ _ _ _;
      slot_high = search rules;
      on_way = record { near_is = here; low_is = here };
      keeps = λ l h. omega (arith, l, h);
      own = λ o. absurd (omega (arith, o));
      used_is = c.section_start-k.ensures ∙ sym (first_block g.c);
    }

pub next_key-block-requires : goal.next_key-block-requires
next_key-block-requires c =
    (keys_fit c.args.c c.requires.0, (c.loop-done.invariant.used_is, (omega arith, omega arith)))

pub loop-done-preserved : goal.loop-done-preserved
loop-done-preserved c =
    let l = c.loop-done in
    let i = l.invariant in
    let g = c.args in
    let t = c.in-Ok.ensures in
    let w = length-take-le g.c.width g.key.now (omega (arith, c.requires.0.walks.width_high)) in
    let e = c.next_key-block.ensures in
    record {
      hands = one_more g.c g.g g.prn g.marks l.done l.top.slot _ _ g.m.now g.key.now l.key _ _ w i.hands
          (t.gives g.m.now (ap (λ (x : Block). x.key) e) (ap (λ (x : Block). x.spare) e));
      slot_high = t.slot_high;
      on_way = t.on_way i.on_way;
      keeps = t.keeps g.slot i.keeps;
      own = λ o came. own_on g.c g.g g.prn g.marks l.done g.via l.top.slot _ l.top.way _ (λ b. i.own b came) t.keeps t.own t.own_stays came;
      used_is = ap (λ (x : Block). x.next.used) e;
    }

pub returns-in-Err : goal.returns-in-Err
returns-in-Err c =
    let l = c.loop-done in
    let i = l.invariant in
    let g = c.args in
    let t = c.in-Err.ensures in
    let w = length-take-le g.c.width g.key.now (omega (arith, c.requires.0.walks.width_high)) in
    let e = c.next_key-block.ensures in (
      all_refused g.c g.g g.prn g.marks (l.done + 1) g.c.nmack _ _ g.m.now g.key.now _ _ (omega arith) t.is_refused
          (one_more g.c g.g g.prn g.marks l.done l.top.slot _ _ g.m.now g.key.now l.key _ _ w i.hands
          (t.gives g.m.now (ap (λ (x : Block). x.key) e) (ap (λ (x : Block). x.spare) e))),
      (i.slot_high, (rw t.key_stays i.on_way, (i.keeps, λ z. absurd (omega (arith, z, t.is_refused))))),
    )

pub returns : goal.returns
returns c =
    let l = c.loop-done in
    let i = l.invariant in (
      all_blocks _ _ _ _ l.done _ _ _ _ _ _ _ (search rules) (search rules) i.hands,
      (i.slot_high, (i.on_way, (i.keeps, λ z. i.own (omega (arith, c.loop-done-test.false, c.requires.0.walks.nmack_low))))),
    )
