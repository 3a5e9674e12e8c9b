-- `received::fields_came` meets its contract: the marks of the fifteen fields stand above the last one.
use mathlib.Core.Path.{sym}
use native.Mathlib.Omega.{arith}
use Rattle.received.proofs.Fields.{came_is}
use Rattle.received.proofs.fields_came.Goals as goal

pub returns : goal.returns
returns c = sym (came_is c.args.marks 15 (omega arith) (omega arith))
