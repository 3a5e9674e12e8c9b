-- `cmac::xored` meets its contract: after i turns the first i bytes are stored.
use mathlib.Core.Path.{◌≡◌, refl, sym}
use lib.ListN.{length, length-set}
use Rattle.laws.proofs.Fill.{fill_one, fill_all}
use Rattle.aes.specs.Aes as A
use Rattle.aes.proofs.Lengths.{get_or-xored, length-xored}
use borrow.Author.Rules.{rules}
use native.Mathlib.Omega.{arith}
use Rattle.cmac.proofs.xored.Goals as goal

pub loop-i-init : goal.loop-i-init
loop-i-init c = (refl, refl)

pub loop-i-preserved : goal.loop-i-preserved
loop-i-preserved c =
    let l = c.loop-i in
    let g = c.args in
    let e : length g.a ≡ 16 = search rules in
    let n = length-xored g.a g.s.now (omega arith) in
    (simp length-set l.invariant.0, fill_one (A.xored g.a g.s.now) l.d l.i _ (omega arith) (omega arith) l.invariant.1 (sym (get_or-xored g.a g.s.now l.i (omega arith) (omega arith))))

pub returns : goal.returns
returns c =
    let l = c.loop-i in
    let g = c.args in
    let e : length g.a ≡ 16 = search rules in
    let n = length-xored g.a g.s.now (omega arith) in
    fill_all _ l.d l.i 16 (omega arith) (omega arith) l.invariant.0 (omega arith) l.invariant.1
