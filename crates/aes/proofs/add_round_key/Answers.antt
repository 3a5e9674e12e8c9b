-- `aes::add_round_key` meets its contract.
use Rattle.aes.proofs.States.{key-all}
use Rattle.aes.proofs.add_round_key.Goals as goal

pub returns : goal.returns
returns c =
    let g = c.args in
    key-all g.s g.w.now g.n _ _ _ _ c.word_at.ensures c.word_at-2.ensures c.word_at-3.ensures c.word_at-4.ensures
