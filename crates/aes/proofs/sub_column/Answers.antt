-- `aes::sub_column` meets its contract.
use mathlib.Core.Path.{refl, ap, ◌∙◌}
use mathlib.Core.List.{List}
use Prim.Native.Nat.{ℕ}
use lib.ListN.{get_or}
use Rattle.aes.specs.Aes as S
use Rattle.aes.proofs.States.{four_equal, joined_is}
use Rattle.aes.proofs.sub_column.Goals as goal

pub returns : goal.returns
returns c =
    let byte = λ (i : ℕ) (l : List ℕ). S.sub_byte (get_or l i 0) in
    joined_is _ _ _ _ _ c.sub_byte.type_inv c.sub_byte-2.type_inv c.sub_byte-3.type_inv c.sub_byte-4.type_inv (rw (c.from.ensures, c.from-2.ensures, c.from-3.ensures, c.from-4.ensures) refl)
    ∙ four_equal (c.sub_byte.ensures ∙ ap (byte 0) c.to_be_bytes.ensures) (c.sub_byte-2.ensures ∙ ap (byte 1) c.to_be_bytes-2.ensures)
    (c.sub_byte-3.ensures ∙ ap (byte 2) c.to_be_bytes-3.ensures) (c.sub_byte-4.ensures ∙ ap (byte 3) c.to_be_bytes-4.ensures)
