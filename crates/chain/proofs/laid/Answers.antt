-- `chain::laid` meets its contract: the key and α stand in their places.
use mathlib.Core.Path.{◌≡◌, refl}
use borrow.Author.Rules.{rules}
use lib.ListN.{length}
use Rattle.chain.proofs.Steps.{laid_is}
use Rattle.chain.proofs.laid.Goals as goal

pub returns : goal.returns
returns c =
    let a : length c.args.c.alpha ≡ 6 = search rules in
    let k : length c.args.key.now ≡ 32 = search rules in
    laid_is c.args.c c.args.key.now _ _ _ (search rules) a k refl c.copy_part.ensures c.copy_part-2.ensures
