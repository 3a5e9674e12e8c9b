-- Core and gate in one run: by what the checker makes of the contracts of both, and with their clauses written out. Assumes nothing.
use Rattle.assurance.proofs.Run as C
use Rattle.valve_safety.specs.Safety.{written, SafeOf, Safe}
use Rattle.valve_safety.proofs.Boundary.{Says, contracts_say, written_says}
use Rattle.valve_safety.proofs.Contracts.{contracts}
use Rattle.valve_safety.proofs.Exported.{through}
use Rattle.valve_safety.proofs.FromContracts.{safe_of}

pub contracts_safe : SafeOf contracts
contracts_safe = safe_of contracts contracts_say

-- by way of the contracts
both_through : Says written written
both_through =
    record {
      core = C.through;
      gate = through;
      ask = λ args r last d. contracts_say.ask args r last (written_says.ask args r last d);
    }

pub safe : Safe
safe = safe_of written both_through
