-- The word call by its cases: refused, another type, held. Assumes nothing.
use mathlib.Core.Path.{◌≡◌, ap, sym}
use mathlib.Core.Bool.{true, false, ◌&&◌}
use mathlib.Core.List.{List}
use Prim.Native.Nat.{ℕ, ◌+◌, ◌≤◌}
use lib.Dec.{eqb}
use lib.ListN.{length, set}
use borrow.Author.Tests.{le-leb}
use Rattle.laws.specs.Refusal.{first_refusal}
use Rattle.laws.proofs.Refusal.{unless_refused}
use Rattle.regions.proofs.Faults.{refusal_above_0}
use Rattle.regions.specs.Told.{told}
use Rattle.rules.specs.Calls.{Word, word_checks, word_taken, word_call}
use Rattle.rules.specs.State.{State, word_shaped, word_lent, config_length, clocks_length, words_length, stamps_length}
use Rattle.rules.specs.Navdata.{word_type, held_type, word_stored}
use Rattle.rules.specs.Refusals.{refusal_number}
use Rattle.rules.specs.Times.{stamp_of}
use Rattle.rules.specs.declared.Refusal.{Refusal}
use Rattle.rules.proofs.Lengths.{word-shaped}
use Rattle.navdata.specs.Pieces.{nav}

-- an answer that is a refusal leaves the state as it was
pub refused : (s : State) (w : Word) (r : Refusal) → refusal_number r ≡ first_refusal (word_checks s w) → told (refusal_number r) s ≡ word_call s w
unfolding word_call
refused s w r e =
    rw (← e) (ap (told (refusal_number r)) (sym (unless_refused (refusal_number r) (word_taken s w) s (refusal_above_0 r))))

-- 0 leaves what the rule makes of it
pub accepted : (s : State) (w : Word) → 0 ≡ first_refusal (word_checks s w) → told 0 (word_taken s w) ≡ word_call s w
unfolding word_call
accepted s w e = rw (← e)

-- "others answer 0 and change nothing"
pub not-held : (s : State) (w : Word) → held_type (word_type w.bytes) ≡ false → word_taken s w ≡ s
unfolding word_taken
not-held s w h = rw h

-- types 1 to 5 are held
pub type_held : (k : ℕ) → (1 ≤ k) × (k ≤ 5) → held_type k ≡ true
unfolding held_type
type_held k h = rw (le-leb 1 k h.0, le-leb k 5 h.1)

-- a word of type 1 to 5, whose satellite's clock, words and stamps are these
pub held : (s : State) (config clocks words stamps clocks' words' stamps' : List ℕ) (w : Word) → held_type (word_type w.bytes) ≡ true
    → clocks' ≡ set clocks (36 + w.prn) (stamp_of w.time)
    → nav words' stamps' ≡ word_stored (nav words stamps) w.prn (word_type w.bytes) w.bytes (stamp_of w.time)
    → word_lent s config clocks' words' stamps' ≡ word_taken (word_lent s config clocks words stamps) w
unfolding word_taken
held s config clocks words stamps clocks' words' stamps' w h ek en = rw (h, ek, ← en)

-- right lengths are those that row 1 asks for
pub fits : (s : State) (config clocks words stamps bytes : List ℕ)
    → ((length config ≡ config_length) × (length clocks ≡ clocks_length)) × ((length words ≡ words_length) × ((length stamps ≡ stamps_length) × (length bytes ≡ 16)))
    → (word_shaped (word_lent s config clocks words stamps) && eqb (length bytes) 16) ≡ true
fits s config clocks words stamps bytes l =
    rw (
      word-shaped (word_lent s config clocks words stamps) (record { config = l.0.0; clocks = l.0.1; words = l.1.0; stamps = l.1.1.0 }),
      l.1.1.1,
    )
