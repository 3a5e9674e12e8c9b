-- The claim of exported calls: by what the checker makes of their contracts, and with their clauses written out. Assumes nothing.
use Rattle.rules.specs.Log.{Call, Reply}
use Rattle.rules.specs.State.{State}
use Rattle.assurance.specs.Run.{written, Did, ClaimOf, ExportedClaim}
use Rattle.assurance.proofs.Contracts.{contracts}
use Rattle.assurance.proofs.Boundary.{Says, contracts_say, written_says}
use Rattle.assurance.proofs.Exported.{did_by, claim_of}

-- a call by its clause is a call by its contract
pub made : (s s' : State) (c : Call) (r : Reply) → Did written s c r s' → Did contracts s c r s'
made = did_by written contracts written_says

-- and a call by its contract is one by its clause: no call that the contracts allow is left out
pub by_clause : (s s' : State) (c : Call) (r : Reply) → Did contracts s c r s' → Did written s c r s'
by_clause = did_by contracts written contracts_say

pub contracts_claim : ClaimOf contracts
contracts_claim = claim_of contracts contracts_say

-- by way of the contracts
pub through : Says written written
through =
    record {
      start = λ args r last d. contracts_say.start args r last (written_says.start args r last d);
      word = λ args r last d. contracts_say.word args r last (written_says.word args r last d);
      subframe = λ args r last d. contracts_say.subframe args r last (written_says.subframe args r last d);
      verdict = λ args r last d. contracts_say.verdict args r last (written_says.verdict args r last d);
      read_set = λ args r last d. contracts_say.read_set args r last (written_says.read_set args r last d);
      read_offer = λ args r last d. contracts_say.read_offer args r last (written_says.read_offer args r last d);
      four = λ args r last d. contracts_say.four args r last (written_says.four args r last d);
      progress = λ args r last d. contracts_say.progress args r last (written_says.progress args r last d);
    }

pub exported_claim : ExportedClaim
exported_claim = claim_of written through
