-- `aes::columns` meets its contract.
use mathlib.Core.Path.{◌≡◌}
use lib.ListN.{length}
use Rattle.aes.proofs.States.{columns_is}
use borrow.Author.Rules.{rules}
use Rattle.aes.proofs.columns.Goals as goal

pub returns : goal.returns
returns c =
    let e : length c.args.b.now ≡ 16 = search rules in
    columns_is c.args.b.now _ _ _ _ e c.word_at.ensures c.word_at-2.ensures c.word_at-3.ensures c.word_at-4.ensures
