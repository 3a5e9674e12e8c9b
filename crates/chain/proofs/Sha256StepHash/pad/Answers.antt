-- `chain::Sha256` pads a message as SHA-256 does.
use Rattle.chain.proofs.Steps.{tail_put}
use Rattle.chain.proofs.Sha256StepHash.pad.Goals as goal

pub returns : goal.returns
returns c = λ x e p. tail_put c.args.n c.args.b.now _ x c.requires.1 c.put_u32.ensures e p
