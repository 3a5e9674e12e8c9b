-- `aes::bytes` meets its contract.
use Rattle.aes.proofs.States.{bytes_is}
use Rattle.aes.proofs.bytes.Goals as goal

pub returns : goal.returns
returns c =
    bytes_is c.args.s c.put_u32.ensures c.put_u32-2.ensures c.put_u32-3.ensures c.put_u32-4.ensures
