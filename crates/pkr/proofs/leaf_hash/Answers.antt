-- `pkr::leaf_hash` meets its contract: the leaf is a part of the message, or its end.
use mathlib.Core.Path.{sym, ap, ◌∙◌}
use Prim.Native.Nat.{◌+◌, ◌-◌, ◌≤◌}
use lib.ListN.{length, drop, length-take, length-drop}
use lib.Seq.{take_all}
use native.Mathlib.Omega.{arith}
use borrow.Author.Tests.{eq-eqb, ne_eqb}
use Rattle.sha256.specs.Sha256.{sha256}
use Rattle.laws.proofs.Splice.{range_part}
use Rattle.rules.specs.Pkr as S
use Rattle.rules.proofs.Bounds.{key-length_bound}
use Rattle.pkr.proofs.Pkr.{emergency_size, key_size}
use Rattle.pkr.proofs.leaf_hash.Goals as goal
use Rattle.pkr.proofs.leaf_hash.Goals.{After-key_length-n, Then-kind-eq4}

urgent : (c : Then-kind-eq4) → 143 ≤ length c.args.d.now
urgent c = emergency_size _ c.requires.0 (sym c.new_type-kind.ensures ∙ c.if-kind-eq4.true)

sized : (c : After-key_length-n) → (130 + c.key_length-n.result ≤ length c.args.d.now) × (c.key_length-n.result ≤ 67)
sized c =
    (rw (c.key_length-n.ensures, c.new_type-kind.ensures) (key_size c.args.d.now c.requires.0 (λ e. c.if-kind-eq4.false (c.new_type-kind.ensures ∙ e))).1, rw c.key_length-n.ensures (key-length_bound c.new_type-kind.result))

pub slice_bounds-sha256-count : goal.slice_bounds-sha256-count
slice_bounds-sha256-count c = omega (arith, urgent (goal.at.slice_bounds-sha256-count c).Then-kind-eq4)

pub slice_bounds-sha256-start : goal.slice_bounds-sha256-start
slice_bounds-sha256-start c = omega (arith, urgent (goal.at.slice_bounds-sha256-start c).Then-kind-eq4)

pub returns-then-kind-eq4 : goal.returns-then-kind-eq4
unfolding S.climbed S.leaf_of S.emergency
returns-then-kind-eq4 c =
    let d = c.args.d.now in
    c.sha256.ensures
    ∙ rw (eq-eqb (S.new_type_of d) 4 (sym c.new_type-kind.ensures ∙ c.if-kind-eq4.true))
    (ap sha256 (take_all (length d - 129) (drop 129 d) (simp length-drop (omega arith))))

pub overflow_add-n : goal.overflow_add-n
overflow_add-n c = omega (arith, sized (goal.at.overflow_add-n c).After-key_length-n)

pub overflow_add-n-2 : goal.overflow_add-n-2
overflow_add-n-2 c = omega (arith, sized (goal.at.overflow_add-n-2 c).After-key_length-n)

pub slice_bounds-sha256-end-2 : goal.slice_bounds-sha256-end-2
slice_bounds-sha256-end-2 c = omega (arith, sized (goal.at.slice_bounds-sha256-end-2 c).After-key_length-n)

pub sha256-requires-2 : goal.sha256-requires-2
sha256-requires-2 c = simp (length-take, length-drop) (omega (arith, sized (goal.at.sha256-requires-2 c).After-key_length-n))

pub returns : goal.returns
unfolding S.climbed S.leaf_of S.emergency
returns c =
    let d = c.args.d.now in
    c.sha256-2.ensures
    ∙ rw (ne_eqb (S.new_type_of d) 4 (λ e. c.if-kind-eq4.false (c.new_type-kind.ensures ∙ e)), range_part d 129 (1 + c.key_length-n.result), c.key_length-n.ensures, c.new_type-kind.ensures)
