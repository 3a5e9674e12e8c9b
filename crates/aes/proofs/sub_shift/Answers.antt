-- `aes::sub_shift` meets its contract.
use Rattle.aes.proofs.States.{sub-all}
use Rattle.aes.proofs.sub_shift.Goals as goal

pub returns : goal.returns
returns c =
    sub-all c.args.s _ _ _ _ c.sub_column.ensures c.sub_column-2.ensures c.sub_column-3.ensures c.sub_column-4.ensures
