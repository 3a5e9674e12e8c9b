-- `received::received` meets its contract: after k turns the first k fields are as they came, and zeros follow.
use mathlib.Core.Path.{◌≡◌, refl, sym, ◌∙◌}
use native.Mathlib.Omega.{arith}
use borrow.Author.Rules.{rules}
use Rattle.rules.specs.Received.{field_came, received}
use Rattle.received.proofs.Fields.{next_field}
use Rattle.received.proofs.received.Goals as goal
use Rattle.received.proofs.received.Goals.{then-field_came, else-field_came}

pub loop-k-init : goal.loop-k-init
unfolding received
loop-k-init c = refl

pub loop-k-preserved : goal.loop-k-preserved
loop-k-preserved c =
    let l = c.loop-k in
    let came : field_came c.args.marks l.k ≡ c.field_came.result = sym c.field_came.ensures in
    next_field c.args.marks c.args.f.now l.fields _ l.k (omega arith) (search rules) l.invariant
    (elim c.if-field_came.branch [
      | then-field_came w ↦ rw (came, w.if-field_came.true) (w.fields-is ∙ w.copy_part.ensures)
      | else-field_came w ↦ rw (came, w.if-field_came.false) w.fields-is
    ])
