-- `aes::mix_columns` meets its contract.
use borrow.Author.Rules.{rules}
use Rattle.aes.proofs.States.{mix_all}
use Rattle.aes.proofs.mix_columns.Goals as goal

pub returns : goal.returns
returns c =
    mix_all c.args.s c.map.result (λ i h. let m = c.map.ensures.items.at i 0 0 h in search (rules, m))
