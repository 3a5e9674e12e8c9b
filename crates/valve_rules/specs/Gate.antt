-- The gate's state and its calls (02, P14). The state is 49 numbers: one for each of "48 valves", valve 1 first, and then whether the core is stopped,
-- as far as its answers tell: "It sees what the core answers and nothing inside it." Any 49 bytes are a state: each call has a stated effect on them.
-- Valve k + 1 has place k.
use Rattle.std.specs.Prelude.{ℕ, zero, suc, ◌+◌, ◌-◌, ◌*◌, Bool, cond, not, ◌&&◌, ◌||◌, List, leb, ltb, eqb, length, get_or, set, replicate}
use Rattle.laws.specs.Refusal.{neb}
use Rattle.valve_rules.specs.Valve.{Valve, free, closed2, closed1, closed, is_free, next}

abbrev pub gate_length : ℕ
gate_length = 49

-- ---- the state

-- a valve as a number: 0 to 2 closed, with so many further decisions to come in which it stays closed, and 3 free; any other number is 0
unfoldable pub valve_of : ℕ → Valve
valve_of v = cond (eqb v 3) free (cond (eqb v 2) closed2 (cond (eqb v 1) closed1 closed))

abbrev pub number_of : Valve → ℕ
number_of free = 3
number_of closed2 = 2
number_of closed1 = 1
number_of closed = 0

-- valve k + 1
unfoldable pub valve_at : List ℕ → ℕ → Valve
valve_at g k = valve_of (get_or g k 0)

-- the core is stopped
unfoldable pub stop_seen : List ℕ → Bool
stop_seen g = neb (get_or g 48 0) 0

-- "All valves begin closed, which is no change."
unfoldable pub begun : List ℕ
begun = replicate gate_length 0

-- ---- what the core answers (B82)

-- a start answered 0 ends a stop; one that is refused changes nothing
unfoldable pub start_shown : List ℕ → ℕ → List ℕ
start_shown g n = cond (eqb n 0) (set g 48 0) g

-- a word or a verdict answered 4: the core is stopped
unfoldable pub answer_shown : List ℕ → ℕ → List ℕ
answer_shown g n = cond (eqb n 4) (set g 48 1) g

-- a sub-frame with a 4 in either half: the core was stopped, or the sub-frame stopped it, which returns 0 and 4 (01, PKR with NPKT 4)
unfoldable pub subframe_shown : List ℕ → ℕ → ℕ → List ℕ
subframe_shown g hkroot mack = cond (eqb hkroot 4 || eqb mack 4) (set g 48 1) g

-- ---- a decision

-- "The outer six on each side": valves 1 to 6 and 43 to 48 (B90)
unfoldable pub outer : ℕ → Bool
outer k = ltb k 6 || leb 42 k

-- "Centre valves are free with four authentic satellites no older than 20 sub-frames. The outer six on each side are free only with an age limit of 10."
abbrev pub limit_of : ℕ → ℕ
limit_of k = cond (outer k) 10 20

-- whether the limit of valve k + 1 is met, by the core's answers for 20 and for 10
unfoldable pub own_met : ℕ → Bool → Bool → Bool
own_met k met20 met10 = cond (outer k) met10 met20

-- "A stopped core closes all, and a decision made then counts as limit unmet."
unfoldable pub met_then : Bool → Bool → Bool
met_then stopped met = not stopped && met

-- the first n valves have decided
unfoldable pub decided_to : Bool → Bool → List ℕ → ℕ → List ℕ
decided_to met20 met10 g zero = g
decided_to met20 met10 g (suc n) =
    let h = decided_to met20 met10 g n in
    set h n (number_of (next (valve_at h n) (own_met n met20 met10)))

-- "it decides for each of 48 valves"
unfoldable pub decided : List ℕ → Bool → Bool → List ℕ
decided g met20 met10 = decided_to (met_then (stop_seen g) met20) (met_then (stop_seen g) met10) g 48

unfoldable pub free_digit : Valve → ℕ
free_digit v = cond (is_free v) 1 0

-- the last n valves as binary digits, 1 for free, the first of them lowest
unfoldable pub last_digits : List ℕ → ℕ → ℕ
last_digits g zero = 0
last_digits g (suc n) = free_digit (valve_at g (47 - n)) + 2 * last_digits g n

-- all 48: valve 1 in the lowest digit
unfoldable pub free_valves : List ℕ → ℕ
free_valves g = last_digits g 48

-- ---- the calls over lent memory: 1 where the state's length is wrong, and then nothing is changed and no valve free

-- what a call gives: its number, and the state that it leaves
pub record Shown : Type 0 where
  pub code : ℕ
  pub gate : List ℕ

abbrev pub shown : ℕ → List ℕ → Shown
shown n g = record { code = n; gate = g }

-- lent g, a call that makes h of it
unfoldable pub if_lent : List ℕ → List ℕ → Shown
if_lent g h = cond (eqb (length g) gate_length) (shown 0 h) (shown 1 g)

-- what a decision gives: the free valves besides
pub record Decided : Type 0 where
  pub code : ℕ
  pub gate : List ℕ
  pub free : ℕ

abbrev pub decision : ℕ → List ℕ → ℕ → Decided
decision n g f = record { code = n; gate = g; free = f }

-- an answer to a question: 1 says yes, any other number no
unfoldable pub yes : ℕ → Bool
yes n = eqb n 1

unfoldable pub decide_call : List ℕ → ℕ → ℕ → Decided
decide_call g met20 met10 =
    let h = decided g (yes met20) (yes met10) in
    cond (eqb (length g) gate_length) (decision 0 h (free_valves h)) (decision 1 g 0)
