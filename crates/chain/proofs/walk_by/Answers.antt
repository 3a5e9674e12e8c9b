-- `chain::walk_by` meets its contract: each turn is a step of the chain.
use native.Mathlib.Omega.{arith}
use Rattle.chain.proofs.Steps.{begins, goes_on, ends}
use Rattle.chain.proofs.walk_by.Goals as goal

pub loop-slot-init : goal.loop-slot-init
loop-slot-init g c = begins _ _ _ _ _ _ c.framed-b.ensures

pub step-requires : goal.step-requires
step-requires g c = (c.requires.0, (omega arith, c.loop-slot.invariant.framed))

pub loop-slot-preserved : goal.loop-slot-preserved
loop-slot-preserved g c = goes_on _ _ _ _ _ _ _ c.loop-slot.slot (omega arith) c.loop-slot.invariant c.step.ensures

pub returns : goal.returns
returns g c = ends _ _ _ _ _ _ _ c.loop-slot.slot (omega arith) c.loop-slot.invariant c.copy_part.ensures
