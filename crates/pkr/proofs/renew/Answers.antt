-- `pkr::renew` meets its contract: each return is the case of its tests.
use mathlib.Core.Path.{◌≡◌, sym, ◌∙◌}
use Prim.Native.Nat.{◌+◌, ◌≤◌, ◌<◌}
use lib.ListN.{length, length-take, length-drop}
use native.Mathlib.Omega.{arith}
use Rattle.laws.proofs.Splice.{range_part}
use Rattle.rules.specs.PublicKeys as K
use Rattle.rules.specs.Pkr as S
use Rattle.rules.proofs.Bounds.{key-length_bound, new_id_bound}
use Rattle.pkr.proofs.Pkr.{same_again, not_above, added}
use Rattle.pkr.proofs.renew.Goals as goal
use Rattle.pkr.proofs.renew.Goals.{After-above_all, After-key_length-end, After-new_id-id, After-same_key}

same-is : (c : After-same_key)
    → K.same_key c.args.pubkeys.now (S.new_id_of c.args.d.now) (S.new_type_of c.args.d.now) (S.new_key_of c.args.d.now) ≡ c.same_key.result
unfolding S.new_key_of
same-is c =
    sym (c.same_key.ensures ∙ rw (range_part c.args.d.now 130 c.key_length-end.result, c.key_length-end.ensures, c.new_type-kind.ensures, c.new_id-id.ensures))

above-is : (c : After-above_all)
    → K.above_all c.args.pubkeys.now (S.new_id_of c.args.d.now) ≡ c.above_all.result
above-is c = rw (← c.new_id-id.ensures) (sym c.above_all.ensures)

facts : (c : After-key_length-end)
    → (c.new_type-kind.result < 4) × ((130 + c.key_length-end.result ≤ length c.args.d.now) × (c.key_length-end.result ≤ 67))
facts c =
    (rw c.new_type-kind.ensures c.requires.0, (rw (c.key_length-end.ensures, c.new_type-kind.ensures) c.requires.1, rw c.key_length-end.ensures (key-length_bound c.new_type-kind.result)))

id-small : (c : After-new_id-id) → c.new_id-id.result < 16
id-small c = rw c.new_id-id.ensures (new_id_bound c.args.d.now)

pub overflow_add-end : goal.overflow_add-end
overflow_add-end c = omega (arith, facts (goal.at.overflow_add-end c).After-key_length-end)

pub slice_bounds-same_key-end : goal.slice_bounds-same_key-end
slice_bounds-same_key-end c = omega (arith, facts (goal.at.slice_bounds-same_key-end c).After-key_length-end)

pub same_key-requires : goal.same_key-requires
same_key-requires c =
    (omega (arith, id-small (goal.at.same_key-requires c).After-new_id-id), simp (length-take, length-drop) (omega (arith, facts (goal.at.same_key-requires c).After-key_length-end)))

pub returns-then-same_key : goal.returns-then-same_key
returns-then-same_key c = same_again _ _ (same-is (goal.at.returns-then-same_key c).After-same_key ∙ c.if-same_key.true)

pub above_all-requires : goal.above_all-requires
above_all-requires c =
    omega (arith, id-small (goal.at.above_all-requires c).After-new_id-id)

pub returns-then-not-above_all : goal.returns-then-not-above_all
returns-then-not-above_all c =
    not_above _ _ (same-is (goal.at.returns-then-not-above_all c).After-same_key ∙ c.if-same_key.false) (above-is (goal.at.returns-then-not-above_all c).After-above_all ∙ c.if-not-above_all.true)

pub slice_bounds-add_key-end : goal.slice_bounds-add_key-end
slice_bounds-add_key-end c = omega (arith, facts (goal.at.slice_bounds-add_key-end c).After-key_length-end)

pub add_key-requires : goal.add_key-requires
add_key-requires c =
    (omega (arith, id-small (goal.at.add_key-requires c).After-new_id-id), (omega (arith, facts (goal.at.add_key-requires c).After-key_length-end), simp (length-take, length-drop) (omega (arith, facts (goal.at.add_key-requires c).After-key_length-end))))

pub returns : goal.returns
unfolding S.new_key_of
returns c =
    let d = c.args.d.now in
    added _ _ (same-is (goal.at.returns c).After-same_key ∙ c.if-same_key.false) (above-is (goal.at.returns c).After-above_all ∙ c.if-not-above_all.false) _
    (c.add_key.ensures ∙ rw (range_part d 130 c.key_length-end.result, c.key_length-end.ensures, c.new_type-kind.ensures, c.new_id-id.ensures))
