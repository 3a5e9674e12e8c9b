-- What 02 (P14) promises of the gate "over any run of decisions", between which the core's answers come in any order. Lists are newest first. The head of
-- Claim.antt of `rules` says how the signs are read. Believed here is what Follows, stopped and mets_of say; the four states of a valve are not in it.
use Rattle.std.specs.Prelude.{ℕ, zero, suc, ◌/◌, ◌%◌, ◌^◌, ◌<◌, ◌≡◌, Bool, true, false, cond, not, ◌&&◌, ◌||◌, List, [], ◌∷◌, ◌++◌, eqb, length, replicate}
use Rattle.valve_rules.specs.Valve.{is_free}
use Rattle.valve_rules.specs.Gate.{gate_length, valve_at, begun, start_shown, answer_shown, subframe_shown, outer, limit_of, own_met, decided, free_valves}

-- ---- what comes to the gate: the core's answers, and decisions with the answers to the two questions

pub data Event : Type 0 where
  -- the number of a start; of a word or a verdict; the two of a sub-frame
  started : ℕ → Event
  answered : ℕ → Event
  subframe : ℕ → ℕ → Event
  -- four within 20 sub-frames, four within 10
  decide : Bool → Bool → Event

abbrev pub after : List ℕ → Event → List ℕ
after g (started n) = start_shown g n
after g (answered n) = answer_shown g n
after g (subframe hkroot mack) = subframe_shown g hkroot mack
after g (decide met20 met10) = decided g met20 met10

-- the gate after events, from its beginning
abbrev pub gate : List Event → List ℕ
gate [] = begun
gate (e ∷ es) = after (gate es) e

-- ---- what the history alone says

-- the core is stopped: the last of its answers that tell said so
abbrev pub stopped : List Event → Bool
stopped [] = false
stopped (started n ∷ es) = cond (eqb n 0) false (stopped es)
stopped (answered n ∷ es) = cond (eqb n 4) true (stopped es)
stopped (subframe hkroot mack ∷ es) = cond (eqb hkroot 4 || eqb mack 4) true (stopped es)
stopped (decide met20 met10 ∷ es) = stopped es

-- whether the limit of valve k + 1 was met, decision by decision
abbrev pub mets_of : ℕ → List Event → List Bool
mets_of k [] = []
mets_of k (started n ∷ es) = mets_of k es
mets_of k (answered n ∷ es) = mets_of k es
mets_of k (subframe hkroot mack ∷ es) = mets_of k es
mets_of k (decide met20 met10 ∷ es) = (not (stopped es) && own_met k met20 met10) ∷ mets_of k es

-- ---- 02's rule, of whatever says if a valve is free after decisions

abbrev pub rest : List Bool → List Bool
rest [] = []
rest (m ∷ ms) = ms

-- the last decision was a change to closed; "All valves begin closed, which is no change."
abbrev pub closed_at : (List Bool → Bool) → List Bool → Bool
closed_at f [] = false
closed_at f (m ∷ ms) = f ms && not (f (m ∷ ms))

-- one of the last two was
abbrev pub closed_lately : (List Bool → Bool) → List Bool → Bool
closed_lately f ms = closed_at f ms || closed_at f (rest ms)

-- "After a change to closed, a valve stays closed for two further decisions, met or not; else it is free exactly when its limit is met."
pub record Follows (f : List Bool → Bool) : Type 0 where
  pub begins : f [] ≡ false
  pub goes_on : (m : Bool) (ms : List Bool) → f (m ∷ ms) ≡ cond (closed_lately f ms) false m

-- ---- the claim

-- a number of each of the first n valves, in order
abbrev pub of_each : (ℕ → ℕ) → ℕ → List ℕ
of_each f zero = []
of_each f (suc n) = of_each f n ++ f n ∷ []

pub record Claim : Type 0 where
  -- a valve is free by the history of its own limit alone, by 02's rule, which leaves no choice
  pub ruling : List Bool → Bool
  pub follows : Follows ruling
  pub only : (f h : List Bool → Bool) → Follows f → Follows h → (ms : List Bool) → f ms ≡ h ms
  pub rules : (k : ℕ) → k < 48 → (es : List Event) → is_free (valve_at (gate es) k) ≡ ruling (mets_of k es)
  -- "no valve is free while its own limit is unmet"
  pub unmet : (k : ℕ) → k < 48 → (es : List Event) (ms : List Bool) → mets_of k es ≡ false ∷ ms → is_free (valve_at (gate es) k) ≡ false
  -- "a valve whose limit is met three decisions running is free at the third"
  pub third : (k : ℕ) → k < 48 → (es : List Event) (ms : List Bool) → mets_of k es ≡ true ∷ true ∷ true ∷ ms → is_free (valve_at (gate es) k) ≡ true
  -- "A stopped core closes all", at the next decision
  pub stops : (k : ℕ) → k < 48 → (es : List Event) (met20 met10 : Bool) → stopped es ≡ true → is_free (valve_at (gate (decide met20 met10 ∷ es)) k) ≡ false
  -- valves of a group agree
  pub alike : (j k : ℕ) → j < 48 → k < 48 → outer j ≡ outer k → (es : List Event) → valve_at (gate es) j ≡ valve_at (gate es) k
  -- "Centre valves .. 20 sub-frames. The outer six on each side .. 10."
  pub limits : of_each limit_of 48 ≡ replicate 6 10 ++ (replicate 36 20 ++ replicate 6 10)
  -- and of what the core answers for each limit, a valve goes by the answer for its own
  pub own : (says : ℕ → Bool) (k : ℕ) → own_met k (says 20) (says 10) ≡ says (limit_of k)
  -- the number that a decision gives has valve k + 1 in digit k, and no other digit
  pub digits : (g : List ℕ) (k : ℕ) → k < 48 → free_valves g / 2 ^ k % 2 ≡ cond (is_free (valve_at g k)) 1 0
  pub no_more : (g : List ℕ) → free_valves g < 2 ^ 48
  -- the state keeps its length
  pub length_kept : (es : List Event) → length (gate es) ≡ gate_length
