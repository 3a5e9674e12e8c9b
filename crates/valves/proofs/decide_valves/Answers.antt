-- The 48 bytes that the loop is lent, and the byte behind them, are the gate.
use Rattle.std.proofs.Common.{◌≡◌, List, ℕ, ◌<◌, length, get_or, take, drop, sym, ap, ◌∙◌, arith, rules}
use Rattle.std.proofs.lemmas.List.{take-append-drop, length-take-le, set-append_left}
use Rattle.std.proofs.Math.ListN.{get_or-append}
use Rattle.valve_rules.specs.Gate.{gate_length, decided_to}
use Rattle.valve_rules.proofs.Valves.{one_decided}
use Rattle.valves.proofs.decide_valves.Goals as goal

valves : (gate : List ℕ) → length gate ≡ gate_length → length (take 48 gate) ≡ 48
valves gate h = length-take-le 48 gate (omega arith)

pub slice_bounds-byte-items-end-2 : goal.slice_bounds-byte-items-end-2
slice_bounds-byte-items-end-2 c = sym (valves c.args.gate.now (search rules))

pub loop-k-init : goal.loop-k-init
unfolding decided_to
loop-k-init c = take-append-drop 48 c.args.gate.now

pub loop-k-preserved : goal.loop-k-preserved
loop-k-preserved c =
    let l = c.loop-k in
    let g = c.args in
    let behind = drop 48 g.gate.now in
    let here : l.k < length l.byte-items = omega (arith, l.auto.byte-items, c.loop-k-test.true) in
    let read = sym (get_or-append l.byte-items behind 0 l.k here) ∙ ap (λ (bytes : List ℕ). get_or bytes l.k 0) l.invariant in
    sym (set-append_left l.byte-items behind l.k c.number.result here)
    ∙ rw l.invariant
    (one_decided g.met20 g.met10 g.gate.now l.k c.number.result
    (rw (c.next.ensures, c.from.ensures, c.own_met.ensures, read) at c.number.ensures))

pub returns : goal.returns
returns c =
    let l = c.loop-k in
    let g = c.args in
    let long : length g.gate.now ≡ gate_length = search rules in
    let e : l.k ≡ 48 = omega (arith, valves g.gate.now long) in
    l.invariant ∙ ap (decided_to g.met20 g.met10 g.gate.now) e
