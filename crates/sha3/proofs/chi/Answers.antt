-- `sha3::chi` meets its contract: each lane, from what `either` ensures.
use Rattle.sha3.proofs.Inverted.{chi_is}
use Rattle.sha3.proofs.chi.Goals as goal

pub returns : goal.returns
returns c =
    chi_is _ _ c.either.ensures c.either-2.ensures c.either-3.ensures c.either-4.ensures c.either-5.ensures c.either-6.ensures c.either-7.ensures c.either-8.ensures c.either-9.ensures c.either-10.ensures c.either-11.ensures c.either-12.ensures c.either-13.ensures
