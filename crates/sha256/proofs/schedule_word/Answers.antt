-- `sha256::schedule_word` meets its contract: the word follows from the sixteen before it.
use Rattle.std.proofs.Common.{rules}
use Rattle.sha256.proofs.Progress.{next_word, words_before}
use Rattle.sha256.proofs.schedule_word.Goals as goal

pub returns : goal.returns
returns c =
    let g = c.args in
    λ h b s z. next_word b g.x.now g.t _ (search rules) (search rules) (words_before h b s g.x.now g.t z) c.next.ensures
