-- `replay::replay_all` asks of `replay_piece` only what it may: each piece has at most 16 records.
use mathlib.Core.Path.{ap, ◌∙◌}
use Prim.Native.Nat.{◌≤◌}
use lib.ListN.{length, take}
use Rattle.rules.specs.Replay.{Replay, unread}
use Rattle.replay_records.proofs.Pieces.{piece_place}
use Rattle.replay.proofs.Places.{part_short, piece_fits, places_few}
use Rattle.replay.proofs.replay_all.Goals as goal

pub loop-init : goal.loop-init
unfolding unread
loop-init g c = let e = ap (λ (r : Replay). r.place) c.unread-replay.ensures in omega native.Mathlib.Omega.arith

pub replay_piece-filled-requires : goal.replay_piece-filled-requires
replay_piece-filled-requires g c =
    let l = c.loop in
    let r = c.read_full-n in
    let short : length (take r.result r.new.buf) ≤ 4096 = part_short r.new.buf r.result _ (r.auto.buf ∙ l.auto.input) c.requires.0 in
    let f = piece_fits _ _ _ short l.invariant c.loop-test.true _ _ l.auto.out c.requires.1 in
    record { room_in_bounds = f.0; input_bound = f.1 }

pub loop-preserved : goal.loop-preserved
loop-preserved g c =
    let l = c.loop in
    let r = c.read_full-n in
    let short : length (take r.result r.new.buf) ≤ 4096 = part_short r.new.buf r.result _ (r.auto.buf ∙ l.auto.input) c.requires.0 in
    places_few _ _ _ short l.invariant _ (piece_place _ _ _ _ _ _ _ c.replay_piece-filled.ensures.place_after)
