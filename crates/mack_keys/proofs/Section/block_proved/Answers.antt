-- `mack_keys::block_proved` meets its contract: each return is a case of the block's checks, and what was met on the way down from the highest key is
use mathlib.Core.Path.{◌≡◌, refl, sym, ◌∙◌}
use mathlib.Core.Logic.{⊎_elim}
use Prim.Native.Nat.{◌<◌, ◌^◌}
use native.Mathlib.Omega.{arith}
use lib.ListN.{length, take}
use borrow.Author.Rules.{rules}
use borrow.Author.Tests.{not-true, not-false}
use Rattle.laws.proofs.Splice.{below?}
use Rattle.rules.specs.Chain.{held, higher}
use Rattle.chain.proofs.Bounds.{sent_bound}
use Rattle.chain.proofs.Steps.{met_sent, way_higher}
use Rattle.mack_keys.proofs.Judged.{key_came_law, refused_far, refused_spare, by_key, unfit, fit, now_held, higher_slot, keeps_on, keeps_own}
use Rattle.mack_keys.proofs.Section.block_proved.Goals as goal
use Rattle.mack_keys.proofs.Section.block_proved.Goals.{After-sent_slot-slot}

-- the slot of the block's key
below : (c : After-sent_slot-slot) → c.sent_slot-slot.result < 2 ^ 34
below c =
    let g = c.args in
    let s = g.self in
    rw c.sent_slot-slot.ensures (sent_bound s.c s.time g.b s.prn c.requires.sound.0.walks (search rules) (search rules))

pub returns-then-self-slot : goal.returns-then-self-slot
returns-then-self-slot c =
    let g = c.args in
    let s = g.self in
    record {
      gives = λ m p q.
          rw (key_came_law s.c s.time s.prn s.first s.marks g.top.slot g.b m g.key.now c.requires.came)
          (refused_far s.c s.time s.prn s.first g.top.slot g.b c.sent_slot-slot.result m g.key.now c.sent_slot-slot.ensures c.if-self-slot.true);
      is_refused = omega arith;
      key_stays = refl;
    }

pub returns-then-spare-ne0 : goal.returns-then-spare-ne0
returns-then-spare-ne0 c =
    let g = c.args in
    let s = g.self in
    record {
      gives = λ m p q.
          rw (key_came_law s.c s.time s.prn s.first s.marks g.top.slot g.b m g.key.now c.requires.came)
          (refused_spare s.c s.time s.prn s.first g.top.slot g.b c.sent_slot-slot.result m g.key.now c.sent_slot-slot.ensures c.if-self-slot.false g.spare q c.if-spare-ne0.true);
      is_refused = omega arith;
      key_stays = refl;
    }

pub key_fits-fit-requires : goal.key_fits-fit-requires
key_fits-fit-requires c =
    (c.requires.sound.0.walks, (omega arith, omega (arith, below (goal.at.key_fits-fit-requires c).After-sent_slot-slot)))

pub returns-then-not-fit : goal.returns-then-not-fit
returns-then-not-fit c =
    let g = c.args in
    let s = g.self in
    record {
      gives = λ m p q.
          rw (key_came_law s.c s.time s.prn s.first s.marks g.top.slot g.b m g.key.now c.requires.came)
          (by_key s.c s.time s.prn s.first g.top.slot g.b c.sent_slot-slot.result m g.key.now c.sent_slot-slot.ensures c.if-self-slot.false g.sent p g.spare q c.if-spare-ne0.false _ _ _
          (unfit s.c g.top.slot c.sent_slot-slot.result g.key.now g.sent (sym c.key_fits-fit.ensures.0 ∙ not-true _ c.if-not-fit.true)));
      is_refused = omega arith;
      key_stays = refl;
    }

pub returns : goal.returns
returns c =
    let g = c.args in
    let s = g.self in
    let slot = c.sent_slot-slot.result in
    let key = g.key.now in
    let out = c.hold_higher-high.new.key in
    let h = held g.top.slot (take s.c.width key) in
    let top = higher h slot (take s.c.width g.sent) in
    let yes = sym c.key_fits-fit.ensures.0 ∙ not-false _ c.if-not-fit.false in
    let r = c.hold_higher-high.ensures in
    let t = c.taken.ensures in
    let p = c.passed-way.ensures in
    let q = c.key_fits-fit.ensures.1 in
    let n : length g.sent ≡ 32 = search rules in
    let up = higher_slot h slot c.hold_higher-high.result (take s.c.width g.sent) r.0 in
    let is = now_held s.c g.top.slot slot key g.sent c.hold_higher-high.result out r.0 r.1 c.requires.sound.0.walks.width_high n in
    let b = below (goal.at.returns c).After-sent_slot-slot in
    record {
      gives = λ m x y.
          rw (key_came_law s.c s.time s.prn s.first s.marks g.top.slot g.b m g.key.now c.requires.came)
          (by_key s.c s.time s.prn s.first g.top.slot g.b slot m key c.sent_slot-slot.ensures c.if-self-slot.false g.sent x g.spare y c.if-spare-ne0.false _ _ _
          (fit s.c g.top.slot slot key g.sent c.hold_higher-high.result out r.0 r.1 yes _ refl _ t.0));
      slot_high = ⊎_elim (λ (l : g.top.slot < slot). omega (arith, up.0 l, b, t.0)) (λ l. omega (arith, up.1 l, t.0)) (below? g.top.slot slot);
      on_way = λ y.
          rw (t.0, is)
          (t.1.1.1 s.c top (met_sent s.c h slot g.sent yes)
          (p.1 s.c top q.0 (way_higher s.c h slot (take s.c.width g.sent) g.top.way yes y)));
      keeps = λ low x l m.
          t.1.0
          ∙ keeps_on s.via g.top.slot slot c.hold_higher-high.result c.key_fits-fit.result.stop g.top.way.near c.passed-way.result.near up.0 up.1 q.1.0 q.1.1
          p.0.0.0 p.0.0.1 low x l (rw t.0 at m);
      own = λ x k. record {
        own_is = t.1.1.0.0 x ∙ c.sent_slot-slot.ensures;
        passed = λ l m.
            t.1.0
            ∙ keeps_own s.via g.top.slot slot c.hold_higher-high.result c.key_fits-fit.result.stop g.top.way.near c.passed-way.result.near up.0 up.1 q.1.0 q.1.1
            p.0.0.0 p.0.0.1 (rw c.sent_slot-slot.ensures l) (rw t.0 at m);
      };
      own_stays = λ x. t.1.1.0.1 x ∙ p.0.1;
    }
