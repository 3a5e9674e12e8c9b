-- `cmac::last_block` meets its contract: its subkey, and the padded bytes.
use mathlib.Core.Path.{ap, ◌∙◌}
use lib.Dec.{eqb}
use lib.ListN.{length}
use Rattle.cmac.specs.Cmac as S
use Rattle.cmac.proofs.Operations.{xored_comm}
use Rattle.cmac.proofs.Steps.{subkey-length}
use Rattle.cmac.proofs.last_block.Goals as goal

pub xored-requires : goal.xored-requires
xored-requires c = ap length c.subkey.ensures ∙ subkey-length (eqb (length c.args.rest.now) 16) c.args.kept.now c.requires.0

pub returns : goal.returns
unfolding S.last_block
returns c = c.xored.ensures ∙ rw (c.subkey.ensures, c.padded.ensures) (xored_comm _ _)
