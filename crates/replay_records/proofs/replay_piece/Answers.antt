-- The library cuts the next record off what is left; its lines stand behind those that are written.
use Rattle.std.proofs.Common.{[], length, ◌∙◌}
use Rattle.std.proofs.lemmas.List.{length_push}
use Rattle.std.specs.Slice.Iter.{chunks_rest}
use Rattle.replay_records.proofs.Pieces.{none_read, on, past, record_is, rest_is, room_left, rest_long, place_left, read_on, read_all}
use Rattle.replay_records.proofs.replay_piece.Goals as goal

pub loop-bytes-init : goal.loop-bytes-init
loop-bytes-init c = record { rest = cc; size = cc; read = none_read _ _ _ }

pub replay_record-filled-requires : goal.replay_record-filled-requires
replay_record-filled-requires c =
    let l = c.loop-bytes in
    let v = l.invariant in
    let more = on c.args.input.now (chunks_rest l.bytes-iterator) [] [] (length l.yielded) v.rest c.in-Some.ensures.steps.1.2 in (
      rest_long l.out l.filled (room_left _ _ _ _ _ _ _ v.read more c.requires.room_in_bounds),
      place_left _ _ _ _ _ _ _ v.read more c.requires.input_bound,
    )

pub loop-bytes-preserved : goal.loop-bytes-preserved
loop-bytes-preserved c =
    let l = c.loop-bytes in
    let v = l.invariant in
    let f = c.replay_record-filled in
    let s = c.in-Some.ensures.steps in
    let input = c.args.input.now in
    let rest = chunks_rest l.bytes-iterator in
    let x = c.in-Some.bytes.now in
    let after = chunks_rest c.next.new.self in
    let k = length l.yielded in
    let more = on input rest x after k v.rest s.1.2 in
    let long = rw v.size at s.1.1 in
    rw (length_push l.yielded c.in-Some.bytes)
    (record {
      rest = rest_is input rest x after k v.rest s.1.0 long;
      size = s.0 ∙ v.size;
      read =
          read_on _ _ _ _ _ _ _ v.read _ _ _ _ more c.requires.room_in_bounds (record_is input rest x after k v.rest s.1.0 long)
          f.ensures.place_after f.ensures.upper_bound f.auto.out;
    })

pub returns-clause-place_after : goal.returns-clause-place_after
returns-clause-place_after c =
    let l = c.loop-bytes in
    let v = l.invariant in
    let end = past c.args.input.now (chunks_rest l.bytes-iterator) [] [] (length l.yielded) v.rest c.in-None.ensures.steps.1.0 in
    (read_all _ _ _ _ _ _ _ v.read end c.requires.room_in_bounds).0
