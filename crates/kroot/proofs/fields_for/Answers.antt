-- `kroot::fields_for` meets its contract: the difference is cut at 0.
use mathlib.Core.Path.{◌≡◌, sym}
use Prim.Native.Nat.{◌+◌, ◌-◌}
use native.Mathlib.Omega.{arith}
use native.Mathlib.Nat.{zero-div}
use Rattle.rules.specs.Kroot as S
use Rattle.kroot.proofs.fields_for.Goals as goal

pub returns-then-block-ks : goal.returns-then-block-ks
unfolding S.fields_for
returns-then-block-ks c =
    let g = c.args in
    let e : S.block_bits g.nmack - g.ks ≡ 0 = omega (arith, c.block_bits-block.ensures) in
    rw e (sym (zero-div (g.ms + 16)))

pub returns : goal.returns
unfolding S.fields_for
returns c = rw c.block_bits-block.ensures
