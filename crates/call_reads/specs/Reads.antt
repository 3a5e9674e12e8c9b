-- What a read gives, written from its number and what it lent out at exit.
use Rattle.std.specs.Prelude.{List, ℕ, Result, Ok, Err}
use Rattle.rules.specs.Calls.{SetRead, OfferRead, FourRead, ProgressRead}
use Rattle.rules.specs.Refusals.{refusal_number}
use Rattle.rules.specs.declared.Refusal.{Refusal}
use Rattle.call_reads.specs.declared.SetRead as Code
use Rattle.call_reads.specs.declared.SignedBy.{SignedBy}

-- the answer's number, the set's bytes, its IODnav and its tag's GST_SF
abbrev pub set_told : ℕ → List ℕ → ℕ → ℕ → SetRead
set_told code out issue time = record { code = code; out = out; issue = issue; time = time }

-- what the code answers: both numbers are 0 where it refuses
abbrev pub set_answered : Result Code.SetRead Refusal → List ℕ → SetRead
set_answered (Ok read) out = set_told 0 out read.issue read.time
set_answered (Err refusal) out = set_told (refusal_number refusal) out 0 0

-- the answer's number, the message, its signature, its key's bytes, ID and type
abbrev pub offer_told : ℕ → List ℕ → List ℕ → List ℕ → ℕ → ℕ → OfferRead
offer_told code message signature key id type =
    record { code = code; message = message; signature = signature; key = key; id = id; type = type }

-- what the code answers: the key's ID and type are 0 where it refuses
abbrev pub offer_answered : Result SignedBy Refusal → List ℕ → List ℕ → List ℕ → OfferRead
offer_answered (Ok signed) message signature key = offer_told 0 message signature key signed.id signed.kind
offer_answered (Err refusal) message signature key = offer_told (refusal_number refusal) message signature key 0 0

-- the answer's number, and 1 for yes, 0 for no
abbrev pub four_told : ℕ → ℕ → FourRead
four_told code said = record { code = code; yes = said }

-- the answer's number, and the pairs of the DSM IDs
abbrev pub progress_told : ℕ → List ℕ → ProgressRead
progress_told code out = record { code = code; out = out }
