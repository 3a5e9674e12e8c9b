-- `sha256::compress` meets its contract: all rounds, and the sums.
use Rattle.std.proofs.Common.{rules}
use Rattle.sha256.proofs.Progress.{at_first, first_word, compress_is}
use Rattle.sha256.proofs.compress.Goals as goal

pub returns : goal.returns
returns c =
    let h = c.args.h in
    let b = c.args.b.now in
    compress_is h b _ _ _
    (c.rounds-v.ensures h b (λ u from to h' s p w z e. e h' b s z)
    (c.rounds-s.ensures h b (λ u from to h' s p w z e. first_word b u w to (search rules)) (at_first h b _ c.constants-x.ensures)))
    c.sums.ensures
