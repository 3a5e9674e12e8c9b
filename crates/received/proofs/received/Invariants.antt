-- `received::received` meets its contract: after k turns the first k fields are as they came, and zeros follow.
use mathlib.Core.Path.{◌≡◌}
use Rattle.rules.specs.Received.{received}
use Rattle.received.proofs.Fields.{followed}
use Rattle.received.proofs.received.Given as goal

abbrev pub invariant-loop-k : goal.invariant-loop-k
invariant-loop-k l = l.fields ≡ followed (received l.marks l.f l.k) l.k
