-- `due_tag_keys::slot_to_keep` meets its contract: a slot up to the last is below the one after it.
use mathlib.Core.Path.{refl}
use native.Mathlib.Omega.{arith}
use Rattle.due_tag_keys.proofs.slot_to_keep.Goals as goal

pub returns-then-last-slot : goal.returns-then-last-slot
returns-then-last-slot c = (λ short. refl, λ far. absurd (omega (arith, far)))

pub returns : goal.returns
returns c =
    let r = c.next_below.ensures in
    (λ short. absurd (omega (arith, short)), λ far. (omega (arith, r.0), ((λ k l e. r.1.0 k l (omega arith)), r.1.1)))
