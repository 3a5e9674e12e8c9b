-- `sha256::next` meets its contract, by what its calls ensure.
use Rattle.sha256.proofs.next.Goals as goal

pub returns : goal.returns
returns c = cc
