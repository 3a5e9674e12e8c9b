-- `aes::temp` meets its contract, branch by branch.
use mathlib.Core.Path.{ap, ◌∙◌}
use Prim.Native.Nat.{◌^◌, ◌<◌}
use native.Mathlib.Omega.{arith}
use borrow.Author.Rules.{rules}
use Rattle.laws.specs.Bytes.{be4}
use Rattle.aes.specs.Aes as S
use Rattle.aes.proofs.States.{turned}
use Rattle.aes.proofs.Keys.{quotient_positive, first_case, second_case, other_case, short_case}
use Rattle.aes.proofs.temp.Goals as goal

pub overflow_sub-i : goal.overflow_sub-i
overflow_sub-i c =
    quotient_positive c.args.i c.args.nk c.requires.0 c.requires.1

pub returns-in-0 : goal.returns-in-0
returns-in-0 c =
    let s = c.args in
    let h : s.x < 2 ^ 32 = search rules in
    let b = c.x_power.type_inv in
    let v = c.sub_word.ensures ∙ ap S.sub_bytes (ap be4 c.rotate_left.ensures ∙ turned s.x h) in
    first_case s.nk s.i _ _ (be4 s.x) c.in-0.is v (omega arith) (c.from.ensures ∙ c.x_power.ensures)

pub returns-in-4 : goal.returns-in-4
returns-in-4 c =
    let s = c.args in
    second_case s.nk s.i (be4 s.x) _ c.if-nk-gt6.true c.in-4.is c.sub_word-in-4.ensures

pub returns-in_default : goal.returns-in_default
returns-in_default c =
    let s = c.args in
    short_case s.nk s.i (be4 s.x) (λ z. omega arith) c.if-nk-gt6.false

pub returns-in_default-2 : goal.returns-in_default-2
returns-in_default-2 c =
    let s = c.args in
    other_case s.nk s.i (be4 s.x) (λ z. omega arith) (λ z. omega arith)
