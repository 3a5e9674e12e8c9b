-- `due_tag_keys::outcomes` meets its contract: at each turn the tags above slot m are judged, and the key of slot `at` is at hand.
use mathlib.Core.Path.{◌≡◌, refl, ap}
use mathlib.Core.Logic.{⊎_elim}
use Prim.Native.Nat.{◌≤◌, ◌<◌}
use native.Mathlib.Omega.{arith}
use lib.ListN.{length, take, replicate, get_or-replicate}
use Rattle.laws.proofs.Splice.{below?}
use Rattle.rules.specs.Chain.{held}
use Rattle.chain.specs.Sound.{Met}
use Rattle.chain.proofs.Steps.{met_here}
use Rattle.rules.specs.declared.Outcome.TheVariants.{Waits}
use Rattle.due_tag_keys.specs.Outcomes.{due_number}
use Rattle.due_tag_keys.proofs.Falling.{none_above, next_above, all_judged}
use borrow.Author.Rules.{rules}
use Rattle.due_tag_keys.proofs.outcomes.Goals as goal
use Rattle.due_tag_keys.proofs.outcomes.Goals.{After-nearer-at, Start}

length-key : (c : Start) → length c.args.known ≡ 32
length-key c = search rules

-- the key at which the way begins
begun : (c : After-nearer-at)
    → let g = c.args in
    Met g.c (held g.slot (take g.c.width g.known)) c.nearer-at.result c.nearer-at.new.key
begun c =
    let g = c.args in
    c.nearer-at.ensures.1.1.1 g.c (held g.slot (take g.c.width g.known)) (met_here g.c g.slot g.known) c.requires.met

-- it does not begin below slot m
begins : (c : After-nearer-at) → c.next_below-m.result ≤ c.nearer-at.result
begins c = ⊎_elim (λ (l : c.nearer-at.result < c.next_below-m.result). omega (arith, c.nearer-at.ensures.1.0 l, c.next_below-m.ensures.0)) (λ l. l) (below? c.nearer-at.result c.next_below-m.result)

pub loop-m-init : goal.loop-m-init
loop-m-init c =
    let g = c.args in
    let r = c.next_below-m in (
      ((begun (goal.at.loop-m-init c).After-nearer-at).not_above, begins (goal.at.loop-m-init c).After-nearer-at),
      λ h e k. (
        k,
        none_above g.c h g.waiting.now g.n r.result (rw e r.ensures.1.0) (replicate 256 Waits) (λ k q. ap due_number (get_or-replicate 256 k Waits Waits (omega (arith, c.requires.walks.1.0)))),
      ),
    )

pub loop-m-preserved : goal.loop-m-preserved
loop-m-preserved c =
    let d = c.judge_down in
    let l = c.loop-m in
    let g = c.args in
    let r = c.next_below-m-in-loop-m in (
      (omega arith, omega (arith, r.ensures.0)),
      λ h e k.
          let i = l.invariant.1 h e k in
          let j = d.ensures h (rw e l.invariant.0.0) i.0 in (
            j.0,
            next_above g.c h g.waiting.now g.n l.m r.result l.judged d.new.outcomes
                (rw e (omega arith)) r.ensures.0 i.1 j.1 r.ensures.1.0,
          ),
    )

pub returns : goal.returns
returns c =
    let l = c.loop-m in
    let g = c.args in
    let h = held g.slot (take g.c.width g.known) in
    all_judged g.c h g.waiting.now g.n l.m l.judged c.loop-m-test.false (l.invariant.1 h refl (begun (goal.at.returns c).After-nearer-at).key_is).1

pub nearer-at-requires : goal.nearer-at-requires
nearer-at-requires c = length-key (goal.at.nearer-at-requires c).Start
