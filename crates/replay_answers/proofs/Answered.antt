-- A call's contract as the answer to a record of its kind. Assumes nothing.
use mathlib.Core.Path.{◌≡◌, refl, sym}
use mathlib.Core.Bool.{◌&&◌}
use mathlib.Core.List.{List}
use Prim.Native.Nat.{ℕ, ◌+◌}
use lib.Dec.{T, leb, lit≤}
use lib.ListN.{length, take, drop}
use borrow.Author.Tests.{ne_eqb}
use Rattle.laws.specs.Refusal.{first_refusal, unless}
use Rattle.laws.proofs.Refusal.{unless_refused}
use Rattle.laws.specs.Lists.{part}
use Rattle.laws.proofs.Splice.{length_part}
use Rattle.laws.proofs.Tests.{and_true}
use Rattle.regions.specs.Told.{told}
use Rattle.regions.proofs.Faults.{refusal_above_0}
use Rattle.rules.specs.Refusals.{refusal_number}
use Rattle.rules.specs.declared.Refusal.{Refusal}
use Rattle.call_start.proofs.Started.{refused, accepted}
use Rattle.rules.specs.Calls.{start_call, start_checks, start_lengths, fresh, word_call, verdict_call}
use Rattle.rules.specs.State.{State, shaped}
use Rattle.rules.specs.Replay.{start_of, word_of, verdict_of, start_answered, word_answered, verdict_answered, record_length, Session}
use Rattle.replay_answers.specs.Answers.{gave}

abbrev pub session : State → List ℕ → ℕ → Session
session core area started = record { core = core; area = area; started = started }

-- ---- places of a record

pub part_long : (l : List ℕ) (a n : ℕ) → length l ≡ record_length → T (leb (a + n) record_length) → length (take n (drop a l)) ≡ n
unfolding part
part_long l a n e h = length_part l a n (rw e (lit≤ h))

-- ---- each kind

-- what a start is lent has its lengths where the regions have theirs
pub start_lent : (s : State) (input : List ℕ) → length input ≡ record_length → (shaped s && start_lengths (start_of input)) ≡ shaped s
unfolding start_lengths start_of part
start_lent s input e = rw (part_long input 5 28 e tt, part_long input 33 32 e tt, part_long input 65 67 e tt) (and_true (shaped s))

start-answered : (s s' : State) (area : List ℕ) (code started started' : ℕ) (input : List ℕ) → told code s' ≡ start_call s (start_of input)
    → started' ≡ unless code 1 started → gave code 0 0 (session s' area started') ≡ start_answered (session s area started) input
unfolding start_answered
start-answered s s' area code started started' input e d = rw (← e, d)

module _ (s : State) (area : List ℕ) (started : ℕ) (input : List ℕ) where
  pub start_refused : (r : Refusal) → refusal_number r ≡ first_refusal (start_checks s (start_of input))
      → gave (refusal_number r) 0 0 (session s area started) ≡ start_answered (session s area started) input
  start_refused r e =
      start-answered s s area (refusal_number r) started started input (refused s (start_of input) r e) (sym (unless_refused (refusal_number r) 1 started (refusal_above_0 r)))

  pub start_accepted : 0 ≡ first_refusal (start_checks s (start_of input)) → (t : State) → t ≡ fresh (start_of input)
      → gave 0 0 0 (session t area 1) ≡ start_answered (session s area started) input
  start_accepted e t q = start-answered s t area 0 started 1 input (accepted s (start_of input) e t q) refl

module _ (s s' : State) (area : List ℕ) (code started : ℕ) (input : List ℕ) (on : started ≡ 0 → ⊥) where
  pub word_answered_lem : told code s' ≡ word_call s (word_of input) → gave code 0 0 (session s' area started) ≡ word_answered (session s area started) input
  unfolding word_answered
  word_answered_lem e = rw (ne_eqb started 0 on, ← e)

  pub verdict_answered_lem : told code s' ≡ verdict_call s (verdict_of input) → gave code 0 0 (session s' area started) ≡ verdict_answered (session s area started) input
  unfolding verdict_answered
  verdict_answered_lem e = rw (ne_eqb started 0 on, ← e)
