-- The contracts of core and gate as the checker makes them.
use contract.Lifetimes.{Lfts}
use Rattle.assurance.proofs.Contracts as C
use Rattle.valve_safety.specs.Safety.{Both}
use Rattle.valve_safety.proofs.GateContracts as E
use Rattle.valve_gate.proofs.valve_gate_core_decide.Reads as ask-reads

abbrev pub contracts : Both
contracts = record { core = C.contracts; gate = E.contracts; ask = λ args r last. (κs : Lfts 4) × ask-reads.Learnt κs args r last }
