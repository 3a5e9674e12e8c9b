-- `annex_a::vectors` carries the vectors in its contract. Assumes nothing.
use Rattle.annex_a.proofs.Computed.{annex_a}
use Rattle.annex_a.proofs.vectors.Goals as goal

pub returns : goal.returns
returns c = annex_a
