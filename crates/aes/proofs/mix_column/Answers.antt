-- `aes::mix_column` meets its contract.
use mathlib.Core.Path.{ap, ◌∙◌}
use Prim.Native.Nat.{◌^◌, ◌<◌}
use borrow.Author.Rules.{rules}
use lib.Bits.{xor_lt}
use Rattle.laws.specs.Bytes.{be4}
use Rattle.aes.proofs.States.{mix_is, turned, turned_twice, turned_thrice}
use Rattle.aes.proofs.mix_column.Goals as goal

pub returns : goal.returns
returns c =
    let x = c.args.x in
    let h : x < 2 ^ 32 = search rules in
    mix_is x _ _ _ _ c.doubled-y.ensures (ap be4 c.rotate_left.ensures ∙ turned _ (xor_lt 32 x _ h c.doubled-y.type_inv)) (ap be4 c.rotate_left-2.ensures ∙ turned_twice x h)
    (ap be4 c.rotate_left-3.ensures ∙ turned_thrice x h)
