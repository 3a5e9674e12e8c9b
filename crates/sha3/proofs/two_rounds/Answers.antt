-- `sha3::two_rounds` meets its contract: it is the steps one after the other.
use Rattle.sha3.proofs.Inverted.{two_rounds_is}
use Rattle.sha3.proofs.two_rounds.Goals as goal

pub returns : goal.returns
returns c =
    two_rounds_is _ c.args.j c.args.k c.columns.ensures c.effects-d.ensures c.moved.ensures c.chi-t.ensures
    c.columns-2.ensures c.effects-e.ensures c.moved-2.ensures c.chi.ensures
