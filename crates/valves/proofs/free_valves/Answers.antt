-- A further digit is that of valve k; what was read before is small enough for it.
use Rattle.std.proofs.Common.{◌≡◌, ◌+◌, ◌-◌, ◌<◌, refl, ap, ◌∙◌, arith}
use Rattle.valve_rules.specs.Gate.{last_digits, free_digit, free_valves}
use Rattle.valve_rules.proofs.Digits.{one_digit, room}
use Rattle.valves.proofs.free_valves.Goals as goal
use Rattle.valves.proofs.free_valves.Goals.{After-free_digit}

pub loop-k-init : goal.loop-k-init
unfolding last_digits
loop-k-init c = refl

small : (c : After-free_digit) → c.loop-k.free < 140737488355328
small c = room c.args.gate.now (48 - c.loop-k.k) c.loop-k.free (omega arith) c.loop-k.invariant

pub overflow_mul-free : goal.overflow_mul-free
overflow_mul-free c = omega (arith, small (goal.at.overflow_mul-free c).After-free_digit)

pub overflow_add-free : goal.overflow_add-free
overflow_add-free c = omega (arith, small (goal.at.overflow_add-free c).After-free_digit, c.free_digit.ensures.1)

pub loop-k-preserved : goal.loop-k-preserved
loop-k-preserved c =
    let l = c.loop-k in
    let after : 48 - (l.k - 1) ≡ 48 - l.k + 1 = omega arith in
    let place : 47 - (48 - l.k) ≡ l.k - 1 = omega arith in
    let digit = c.free_digit.ensures.0 ∙ ap free_digit c.from.ensures in
    rw after (one_digit c.args.gate.now (48 - l.k) l.free c.free_digit.result l.invariant (rw place digit))

pub returns : goal.returns
unfolding free_valves
returns c =
    let l = c.loop-k in
    let e : 48 - l.k ≡ 48 = omega arith in
    l.invariant ∙ ap (last_digits c.args.gate.now) e
