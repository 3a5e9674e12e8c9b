-- The claim of the gate's exported calls: by what the checker makes of their contracts, and with their clauses written out. Assumes nothing.
use Rattle.valve_safety.specs.Exported.{written, ClaimOf, ExportedGate}
use Rattle.valve_safety.proofs.Boundary.{GateSays, contracts_say, written_says}
use Rattle.valve_safety.proofs.GateContracts.{contracts}
use Rattle.valve_safety.proofs.GateFromContracts.{claim_of}

pub contracts_gate : ClaimOf contracts
contracts_gate = claim_of contracts contracts_say.gate

-- by way of the contracts
pub through : GateSays written written
through =
    let k = written_says.gate in
    let l = contracts_say.gate in
    record {
      begin = λ args r last d. l.begin args r last (k.begin args r last d);
      started = λ args r last d. l.started args r last (k.started args r last d);
      answered = λ args r last d. l.answered args r last (k.answered args r last d);
      subframe = λ args r last d. l.subframe args r last (k.subframe args r last d);
      decide = λ args r last d. l.decide args r last (k.decide args r last d);
    }

pub exported_gate : ExportedGate
exported_gate = claim_of written through
