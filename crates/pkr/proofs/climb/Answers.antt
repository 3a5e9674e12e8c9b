-- `pkr::climb` meets its contract: after j turns the hash is joined with j nodes.
use mathlib.Core.Path.{ap, ◌≡◌, ◌∙◌}
use Prim.Native.Nat.{◌+◌, ◌*◌}
use native.Mathlib.Omega.{arith}
use Rattle.laws.proofs.Splice.{length_part, range_part}
use Rattle.rules.specs.Pkr as S
use Rattle.pkr.proofs.Pkr.{nodes_size, one_node_more}
use Rattle.pkr.proofs.climb.Goals as goal

pub bounds-d-0 : goal.bounds-d-0
bounds-d-0 c = omega (arith, nodes_size c.args.d.now c.requires.0)

pub slice_bounds-join-end : goal.slice_bounds-join-end
slice_bounds-join-end c =
    omega (arith, nodes_size c.args.d.now c.requires.0)

pub join-g-requires : goal.join-g-requires
join-g-requires c =
    let d = c.args.d.now in
    let at = 1 + 32 * c.loop-j.j in
    (omega arith, rw (range_part d at 32) (length_part d at 32 (omega (arith, nodes_size d c.requires.0))))

pub loop-j-preserved : goal.loop-j-preserved
loop-j-preserved c =
    let l = c.loop-j in
    let d = c.args.d.now in
    one_node_more d l.h c.join-g.result l.j l.invariant (rw (range_part d (1 + 32 * l.j) 32) at c.join-g.ensures)

pub returns : goal.returns
returns c =
    let l = c.loop-j in
    let e : l.j ≡ 4 = omega arith in
    l.invariant ∙ ap (S.climbed c.args.d.now) e
