-- The digits are written from the last to the first, then copied.
use Rattle.std.proofs.Common.{◌≡◌, ◌-◌, length, replicate, refl, sym, ◌∙◌, arith, rules}
use native.Mathlib.Nat.{add-sub_cancel_left}
use Rattle.laws.specs.Lists.{part}
use Rattle.laws.proofs.Splice.{length_part, lent}
use Rattle.rules.specs.Replay.{decimal}
use Rattle.replay_lines.proofs.Decimal.{begun, place_left, one_more, spelt}
use Rattle.replay_lines.proofs.put_decimal.Goals as goal

pub loop-rest-init : goal.loop-rest-init
loop-rest-init c = rw c.digit.ensures (begun c.args.n (replicate 20 0) (search rules) refl)

pub overflow_sub-i : goal.overflow_sub-i
overflow_sub-i c = place_left _ _ _ _ c.loop-rest.invariant c.loop-rest-test.true

pub loop-rest-preserved : goal.loop-rest-preserved
loop-rest-preserved c = rw c.digit-in-loop-rest.ensures (one_more _ _ _ _ c.loop-rest.invariant c.loop-rest-test.true)

pub returns : goal.returns
unfolding part
returns c =
    let l = c.loop-rest in
    let g = c.args in
    let e : decimal g.n ≡ part l.text l.i (20 - l.i) = spelt g.n l.text l.i l.rest l.invariant (omega arith) in
    let n : length (decimal g.n) ≡ 20 - l.i = rw e (length_part l.text l.i (20 - l.i) (omega (arith, l.invariant.long, l.invariant.low))) in
    let w : c.copy_from_slice.new.self ≡ decimal g.n = c.copy_from_slice.ensures.after ∙ sym e in
    record {
      is = rw (add-sub_cancel_left g.at (20 - l.i), w) (lent g.out.now g.at (20 - l.i) (decimal g.n) n);
      past = rw n;
      few = omega (arith, l.invariant.low);
    }
