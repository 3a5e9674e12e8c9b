-- `cmac::blocks` meets its contract.
use mathlib.Core.Path.{◌∙◌, ap}
use Prim.Native.Nat.{max}
use Rattle.cmac.proofs.Counts.{rounded_up}
use Rattle.cmac.proofs.blocks.Goals as goal

pub returns : goal.returns
returns c = c.max.ensures ∙ ap (λ n. max n 1) c.div_ceil.ensures ∙ rounded_up c.args.len
