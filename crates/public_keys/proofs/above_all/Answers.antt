-- `public_keys::above_all` meets its contract: none of the IDs below the next is held.
use mathlib.Core.Path.{◌≡◌, refl, sym, ◌∙◌}
use Prim.Native.Nat.{◌+◌, ◌-◌}
use native.Mathlib.Omega.{arith}
use Rattle.rules.specs.PublicKeys as S
use Rattle.public_keys.proofs.Keys.{held_among, held_more}
use Rattle.public_keys.proofs.above_all.Goals as goal

pub loop-n-init : goal.loop-n-init
unfolding S.held_among
loop-n-init c = let e : c.args.id - c.args.id ≡ 0 = omega arith in rw e refl

pub returns-then-key_held : goal.returns-then-key_held
unfolding S.above_all
returns-then-key_held c =
    let g = c.args in
    let n = c.loop-n.n - g.id in
    let e : g.id + n ≡ c.loop-n.n = omega (arith, c.loop-n.auto.n) in
    rw (held_among g.pubkeys.now g.id n (16 - g.id) (omega (arith, c.loop-n.auto.n, c.loop-n-test.true)) (rw e (sym c.key_held.ensures ∙ c.if-key_held.true)))

pub loop-n-preserved : goal.loop-n-preserved
loop-n-preserved c =
    let g = c.args in
    let n = c.loop-n.n - g.id in
    let e : g.id + n ≡ c.loop-n.n = omega (arith, c.loop-n.auto.n) in
    let f : c.loop-n.n + 1 - g.id ≡ n + 1 = omega (arith, c.loop-n.auto.n) in
    rw f (held_more g.pubkeys.now g.id n c.loop-n.invariant (rw e (sym c.key_held.ensures ∙ c.if-key_held.false)))

pub returns : goal.returns
unfolding S.above_all
returns c =
    let e : c.loop-n.n ≡ 16 = omega arith in
    rw (rw e at c.loop-n.invariant)
