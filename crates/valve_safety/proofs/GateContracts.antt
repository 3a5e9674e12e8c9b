-- The contracts of the calls of `valve_gate` as the checker makes them: what a caller learns of each, `Learnt`, whatever its lifetimes, of which none is named.
-- proofs/Boundary.antt has that they say what is written out in specs/Exported.antt.
use contract.Lifetimes.{Lfts}
use Rattle.valve_safety.specs.Exported.{Clauses}
use Rattle.valve_gate.proofs.valve_gate_state_begin.Reads as begin-reads
use Rattle.valve_gate.proofs.valve_gate_state_started.Reads as started-reads
use Rattle.valve_gate.proofs.valve_gate_state_answered.Reads as answered-reads
use Rattle.valve_gate.proofs.valve_gate_state_subframe.Reads as subframe-reads
use Rattle.valve_gate.proofs.valve_gate_state_decide.Reads as decide-reads

abbrev pub contracts : Clauses
contracts =
    record {
      begin = λ args r last. (κs : Lfts 1) × begin-reads.Learnt κs args r last;
      started = λ args r last. (κs : Lfts 1) × started-reads.Learnt κs args r last;
      answered = λ args r last. (κs : Lfts 1) × answered-reads.Learnt κs args r last;
      subframe = λ args r last. (κs : Lfts 1) × subframe-reads.Learnt κs args r last;
      decide = λ args r last. (κs : Lfts 2) × decide-reads.Learnt κs args r last;
    }
