-- A start by its answer: a refusal changes nothing, and a start that is taken writes every part of the state. Assumes nothing.
use mathlib.Core.Path.{◌≡◌, sym, ap}
use mathlib.Core.List.{List}
use Prim.Native.Nat.{ℕ}
use lib.ListN.{take, replicate}
use Rattle.call_start_parts.specs.Blank.{settings, no_words, no_blocks, no_tags, no_sets}
use Rattle.laws.specs.Refusal.{first_refusal}
use Rattle.laws.proofs.Refusal.{unless_refused}
use Rattle.regions.proofs.Faults.{refusal_above_0}
use Rattle.regions.specs.Told.{told}
use Rattle.rules.specs.Calls.{Start, start_checks, start_call, fresh}
use Rattle.rules.specs.PublicKeys.{key_length, with_key}
use Rattle.rules.specs.Kroot.{no_offer}
use Rattle.rules.specs.Refusals.{refusal_number}
use Rattle.rules.specs.declared.Refusal.{Refusal}
use Rattle.rules.specs.State.{State, Nav, Store, Tesla, Auth, clocks_length, pubkeys_length, chain_length}

module _ (s : State) (x : Start) where
  pub refused : (r : Refusal) → refusal_number r ≡ first_refusal (start_checks s x) → told (refusal_number r) s ≡ start_call s x
  unfolding start_call
  refused r e =
      rw (← e) (ap (told (refusal_number r)) (sym (unless_refused (refusal_number r) (fresh x) s (refusal_above_0 r))))

  pub accepted : 0 ≡ first_refusal (start_checks s x) → (t : State) → t ≡ fresh x → told 0 t ≡ start_call s x
  unfolding start_call
  accepted e t q = rw (← e, q)

-- the parts that a start writes are the whole state
pub all-written : (x : Start) (config clocks : List ℕ) (nav : Nav) (store : Store) (pubkeys offer chain : List ℕ) (tesla : Tesla) (auth : Auth)
    → (config ≡ settings x.ns x.maclt x.marks x.root) × (clocks ≡ replicate clocks_length 0)
    → (nav ≡ no_words) × (store ≡ no_blocks)
    → (pubkeys ≡ with_key (replicate pubkeys_length 0) x.id x.type (take (key_length x.type) x.key)) × ((offer ≡ no_offer) × (chain ≡ replicate chain_length 0))
    → (tesla ≡ no_tags) × (auth ≡ no_sets)
    → record { config = config; clocks = clocks; nav = nav; store = store; pubkeys = pubkeys; offer = offer; chain = chain; tesla = tesla; auth = auth } ≡ fresh x
unfolding fresh
all-written x config clocks nav store pubkeys offer chain tesla auth a b k d =
    rw (a.0, a.1, b.0, b.1, k.0, k.1.0, k.1.1, d.0, d.1)
