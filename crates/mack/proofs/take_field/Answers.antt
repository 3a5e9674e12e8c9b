-- `mack::take_field` meets its contract: the reader takes off the tag and the 16 bits after it.
use mathlib.Core.Path.{◌≡◌, refl}
use Prim.Native.Nat.{◌+◌}
use native.Mathlib.Omega.{arith}
use Rattle.rules.proofs.Bounds.{bits_lt}
use Rattle.mack.proofs.take_field.Goals as goal

pub overflow_cast-result : goal.overflow_cast-result
overflow_cast-result c =
    let g = c.args in
    rw c.take_field-f.ensures (omega (arith, bits_lt g.m.now (g.k.used + g.c.ms) 16))

pub returns : goal.returns
returns c =
    let g = c.args in
    let e : g.k.used + g.c.ms + 16 ≡ g.k.used + (g.c.ms + 16) = omega arith in
    rw (c.take_field-f.ensures, e) refl
