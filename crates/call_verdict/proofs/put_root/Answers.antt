-- `call_verdict::put_root` meets its contract: the root key, and zeros to 32 bytes.
use mathlib.Core.Path.{ap, ◌∙◌}
use Prim.Native.Nat.{◌≤◌}
use native.Mathlib.Omega.{arith}
use Rattle.rules.specs.Kroot.{key_width}
use Rattle.rules.proofs.Bounds.{key_width_bound}
use Rattle.call_verdict.proofs.Regions.{root_written}
use Rattle.call_verdict.proofs.put_root.Goals as goal
use Rattle.call_verdict.proofs.put_root.Goals.{After-key_width-width}

-- a key has at most 32 bytes
width : (c : After-key_width-width) → c.key_width-width.result ≤ 32
width c = omega (arith, c.key_width-width.ensures, key_width_bound c.ks.result)

pub copy_part-requires : goal.copy_part-requires
copy_part-requires c = let w = width (goal.at.copy_part-requires c).After-key_width-width in (omega (arith, w), omega (arith, w))

pub overflow_sub-width : goal.overflow_sub-width
overflow_sub-width c = omega (arith, width (goal.at.overflow_sub-width c).After-key_width-width)

pub fill-requires : goal.fill-requires
fill-requires c = omega (arith, width (goal.at.fill-requires c).After-key_width-width, c.copy_part.auto.dst)

pub returns : goal.returns
returns c =
    let g = c.args in
    rw (c.fill.ensures, c.copy_part.ensures)
    (root_written g.heldkey.now g.c.now c.key_width-width.result (omega arith) (omega arith) (c.key_width-width.ensures ∙ ap key_width c.ks.ensures))
