-- `section_lost::macseq_came` meets its contract: the MAC-Info of the flexible ones of the first j fields came.
use mathlib.Core.Path.{◌≡◌, refl, sym, ◌∙◌}
use mathlib.Core.Bool.{true}
use Prim.Native.Nat.{◌*◌}
use native.Mathlib.Omega.{arith}
use Rattle.rules.specs.Received.{bits_came}
use Rattle.section_lost.proofs.Lost.{none_flexible, next_flexible, one_lost, macseq_lost, macseq_whole, some_came, none_came}
use Rattle.section_lost.proofs.macseq_came.Goals as goal
use Rattle.section_lost.proofs.macseq_came.Goals.{In-Some}

whole : (c : In-Some) → bits_came c.args.x.marks c.args.c.ms 12 ≡ true
whole c =
    let g = c.args in
    some_came g.x.mack.now g.x.marks g.c.ms 12 _ _ c.macseq_item.ensures c.in-Some.is

pub returns-in_default : goal.returns-in_default
returns-in_default c =
    let g = c.args in
    sym
    (macseq_lost g.config.now g.c g.x.time g.x.marks
    (none_came g.x.mack.now g.x.marks g.c.ms 12 _ c.macseq_item.ensures c.in_default.not-Some))

pub loop-j-init : goal.loop-j-init
loop-j-init c = let g = c.args in none_flexible g.config.now g.c g.x.time g.x.marks

pub returns-then-not-flexible_came : goal.returns-then-not-flexible_came
returns-then-not-flexible_came c =
    let g = c.args in
    sym
    (macseq_whole g.config.now g.c g.x.time g.x.marks (whole (goal.at.returns-then-not-flexible_came c).In-Some)
    ∙ one_lost g.config.now g.c g.x.time g.x.marks (g.c.nmack * g.c.fields) c.loop-j.j (omega arith) (sym c.flexible_came.ensures ∙ c.if-not-flexible_came.true))

pub loop-j-preserved : goal.loop-j-preserved
loop-j-preserved c =
    let g = c.args in
    next_flexible g.config.now g.c g.x.time g.x.marks c.loop-j.j
    ∙ rw (c.loop-j.invariant, ← c.flexible_came.ensures, c.if-not-flexible_came.false) refl

pub returns : goal.returns
returns c =
    let g = c.args in
    let h : c.loop-j.j ≡ g.c.nmack * g.c.fields = omega arith in
    sym (macseq_whole g.config.now g.c g.x.time g.x.marks (whole (goal.at.returns c).In-Some) ∙ rw (← h) c.loop-j.invariant)
