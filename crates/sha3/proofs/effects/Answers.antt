-- `sha3::effects` meets its contract: each rotation is what `rotl` ensures.
use Rattle.sha3.proofs.Steps.{effects_is}
use Rattle.sha3.proofs.effects.Goals as goal

pub returns : goal.returns
returns c =
    effects_is _ c.rotl.ensures c.rotl-2.ensures c.rotl-3.ensures c.rotl-4.ensures c.rotl-5.ensures
