-- `cmac::shifted` meets its contract: after i turns the first i bytes are stored; the last takes no bit in.
use mathlib.Core.Path.{◌≡◌, refl, sym}
use lib.ListN.{length, length-set}
use Rattle.laws.proofs.Fill.{fill_one, fill_all}
use Rattle.cmac.specs.Cmac as S
use Rattle.cmac.proofs.Operations.{get_or-shifted, get_or-shifted_last, length-shifted}
use borrow.Author.Rules.{rules}
use native.Mathlib.Numerals.{add-one}
use native.Mathlib.Omega.{arith}
use Rattle.cmac.proofs.shifted.Goals as goal

pub loop-i-init : goal.loop-i-init
loop-i-init c = (refl, refl)

pub loop-i-preserved : goal.loop-i-preserved
loop-i-preserved c =
    let l = c.loop-i in
    let x = c.args.x in
    let e : length x ≡ 16 = search rules in
    let n = length-shifted x in
    (simp length-set l.invariant.0, fill_one (S.shifted x) l.d l.i _ (omega arith) (omega arith) l.invariant.1 (rw (add-one) (sym (get_or-shifted x l.i (omega arith)))))

pub returns : goal.returns
returns c =
    let l = c.loop-i in
    let x = c.args.x in
    let e : length x ≡ 16 = search rules in
    let n = length-shifted x in
    let e15 : l.i ≡ 15 = omega arith in
    fill_all (S.shifted x) _ 16 16 (omega arith) (omega arith) (simp length-set l.invariant.0) (omega arith)
    (fill_one (S.shifted x) l.d 15 _ (omega arith) (omega arith) (rw e15 at l.invariant.1) (sym (get_or-shifted_last x e)))
