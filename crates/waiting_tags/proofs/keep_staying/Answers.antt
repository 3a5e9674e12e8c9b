-- `waiting_tags::keep_staying` meets its contract: after k turns those of the first k entries that stay are at the front.
use native.Mathlib.Omega.{arith}
use Rattle.waiting_tags.proofs.Entries.{none_yet, stay_region, stay_length}
use Rattle.waiting_tags.proofs.keep_staying.Goals as goal
use Rattle.waiting_tags.proofs.keep_staying.Goals.{At-loop-k}

pub loop-k-init : goal.loop-k-init
loop-k-init c = (omega arith, none_yet c.args.root c.args.waiting.now)

pub loop-k-preserved : goal.loop-k-preserved
loop-k-preserved c =
    let g = c.args in
    let l = c.loop-k in
    let i = l.invariant.1 in
    let s = c.keep_one-kept in
    let m = stay_length g.root g.waiting.now l.waiting s.new.waiting l.k l.kept s.result l.invariant.0 (omega arith) i.0 i.1 s.ensures.0 s.ensures.1 in
    let u = stay_region g.root g.waiting.now l.waiting s.new.waiting l.k l.kept s.result l.invariant.0 (omega arith) i.0 i.1 s.ensures.0 s.ensures.1 in
    (m.1, (m.0, u))
