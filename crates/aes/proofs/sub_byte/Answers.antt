-- `aes::sub_byte` meets its contract: the table's entry at a byte is the rule's.
use Prim.Native.Nat.{◌<◌}
use borrow.Author.Rules.{rules}
use Rattle.aes.specs.Aes as S
use Rattle.aes.proofs.Table.{entry_rule}
use Rattle.aes.proofs.sub_byte.Goals as goal

pub returns : goal.returns
unfolding S.SBOX
returns c =
    let h : c.args.b < 256 = search rules in
    rw c.from.ensures (entry_rule c.args.b h)
