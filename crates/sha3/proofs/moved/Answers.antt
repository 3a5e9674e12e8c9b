-- `sha3::moved` meets its contract: each rotation is what `rotl` ensures, by the offset that the rule gives.
use Rattle.sha3.proofs.Steps.{moved_is}
use Rattle.sha3.proofs.moved.Goals as goal

pub returns : goal.returns
returns c =
    moved_is _ _ c.rotl.ensures c.rotl-2.ensures c.rotl-3.ensures c.rotl-4.ensures c.rotl-5.ensures c.rotl-6.ensures
    c.rotl-7.ensures c.rotl-8.ensures c.rotl-9.ensures c.rotl-10.ensures c.rotl-11.ensures c.rotl-12.ensures
    c.rotl-13.ensures c.rotl-14.ensures c.rotl-15.ensures c.rotl-16.ensures c.rotl-17.ensures c.rotl-18.ensures
    c.rotl-19.ensures c.rotl-20.ensures c.rotl-21.ensures c.rotl-22.ensures c.rotl-23.ensures c.rotl-24.ensures
