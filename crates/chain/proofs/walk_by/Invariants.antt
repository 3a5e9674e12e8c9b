-- `chain::walk_by` meets its contract: each turn is a step of the chain.
use Prim.Native.Nat.{◌+◌}
use Rattle.chain.proofs.Steps.{Walking}
use Rattle.chain.proofs.walk_by.Given as goal

abbrev pub invariant-loop-slot : goal.invariant-loop-slot
invariant-loop-slot g l = Walking l.c (g.H.StepHash.padding (l.c.width + 10)) l.n l.m l.key l.slot l.b
