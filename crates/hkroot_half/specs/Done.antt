-- The HKROOT half of a sub-frame: what it gives, and a state whose settings, store, public keys and waiting message may be others.
use Rattle.std.specs.Prelude.{List, ℕ, Bool, true, false, Result, Ok, Err}
use Rattle.rules.specs.Calls.{HkrootDone}
use Rattle.rules.specs.declared.Refusal.{Refusal}
use Rattle.rules.specs.Refusals.{answer_number}
use Rattle.rules.specs.State.{State, Store, with_config, with_store, with_pubkeys, with_offer}
use Rattle.hkroot_half.specs.declared.Half.{Half}
use Rattle.hkroot_half.specs.declared.Half.TheVariants.{Goes, Stops}

-- whether the core stops: not where the half is refused
abbrev pub stops : Result Half Refusal → Bool
stops (Ok Stops) = true
stops (Ok Goes) = false
stops (Err _) = false

-- the number, whether the core stops, and the state that is left
abbrev pub done : Result Half Refusal → State → HkrootDone
done h s = record { code = answer_number h; stops = stops h; state = s }

abbrev pub gathering : State → List ℕ → Store → List ℕ → List ℕ → State
gathering s config store pubkeys offer = with_offer (with_pubkeys (with_store (with_config s config) store) pubkeys) offer
