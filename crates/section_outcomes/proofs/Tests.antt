-- Tests of an outcome. Assumes nothing.
use mathlib.Core.Path.{◌≡◌, refl}
use mathlib.Core.Bool.{Bool, true, false, ◌&&◌}
use native.Mathlib.Omega.{arith}
use Rattle.section_outcomes.specs.Outcomes.{outcome_by}

pub waits_free : (a b d e f g : Bool) → outcome_by a b d e f g ≡ 5 → g ≡ true
waits_free true b d e f g p = absurd (omega arith)
waits_free false true d e f g p = absurd (omega arith)
waits_free false false true e f g p = absurd (omega arith)
waits_free false false false true f g p = absurd (omega arith)
waits_free false false false false true g p = absurd (omega arith)
waits_free false false false false false true p = refl
waits_free false false false false false false p = absurd (omega arith)

pub and_twice : (a b : Bool) → (a && (a && b)) ≡ (a && b)
and_twice true b = refl
and_twice false b = refl
