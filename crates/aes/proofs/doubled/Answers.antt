-- `aes::doubled` meets its contract: the four bytes side by side.
use Prim.Native.Nat.{◌^◌, ◌<◌}
use borrow.Author.Rules.{rules}
use Rattle.aes.proofs.States.{doubled_is}
use Rattle.aes.proofs.doubled.Goals as goal

pub returns : goal.returns
returns c =
    let h : c.args.x < 2 ^ 32 = search rules in
    doubled_is c.args.x h
