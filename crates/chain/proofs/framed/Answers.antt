-- `chain::framed` meets its contract: the key and α, then the padding of the hash.
use mathlib.Core.Path.{◌≡◌}
use borrow.Author.Rules.{rules}
use lib.ListN.{length}
use Rattle.chain.proofs.Steps.{framed_is}
use Rattle.chain.proofs.framed.Goals as goal

pub returns : goal.returns
returns g c =
    let a : length c.args.c.alpha ≡ 6 = search rules in
    let k : length c.args.key.now ≡ 32 = search rules in
    framed_is c.args.c c.args.key.now _ _ _ (search rules) a k c.laid-b.ensures c.pad.ensures
