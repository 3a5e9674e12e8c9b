-- Core and gate in one run: every call goes to the core, the gate is shown its numbers, and a decision asks the core's two questions. Nothing else passes
-- between them. Of both libraries the contracts of their exported functions are known, and nothing else: what they say is a parameter, `Both`.
use Rattle.std.specs.Prelude.{ℕ, ◌/◌, ◌%◌, ◌^◌, ◌≤◌, ◌<◌, ◌≡◌, Bool, true, false, not, ◌&&◌, List, [], ◌∷◌}
use Rattle.std.specs.Borrow.{Bor, MutBor}
use Rattle.assurance.specs.Run as C
use Rattle.rules.specs.Calls.{Start, four_read}
use Rattle.rules.specs.Claim.{FourBacked}
use Rattle.rules.specs.Four.{four_met}
use Rattle.rules.specs.Log.{Call, start, word, subframe, verdict, ask, four, Reply, plain, History, advanced}
use Rattle.rules.specs.State.{State, stopped, four_lent}
use Rattle.valve_rules.specs.Claim.{Event, decide, gate, mets_of}
use Rattle.valve_rules.specs.Claim as G
use Rattle.valve_gate.specs.Asked.{decide_asked}
use Rattle.valve_rules.specs.Gate.{limit_of, stop_seen, free_valves, yes}
use Rattle.valve_rules.specs.Gate as S
use Rattle.valve_safety.specs.Exported.{Answer, answer, Did, DecideDid, Began}
use Rattle.valve_safety.specs.Exported as E

-- parameters of a decision that asks the core, at entry or at exit, and its clause
abbrev pub AskArgs : Type 0
AskArgs = MutBor (List ℕ) × (Bor (List ℕ) × (Bor (List ℕ) × (MutBor ℕ × Unit {0})))

abbrev pub AskLearnt : C.Clause AskArgs
AskLearnt (bytes, (clocks, (arrivals, _))) r (bytes', (_, (_, (free', _)))) =
    (s : State) → S.decision r bytes'.now free'.now
    ≡ decide_asked bytes.now (four_read (four_lent s clocks.now arrivals.now) 20) (four_read (four_lent s clocks.now arrivals.now) 10)

-- the contracts of the core, of the gate, and of its decision that asks the core
pub record Both : Type 1 where
  pub core : C.Clauses
  pub gate : E.Clauses
  pub ask : C.Clause AskArgs

abbrev pub written : Both
written = record { core = C.written; gate = E.written; ask = AskLearnt }

pub record Boom : Type 0 where
  -- what the core's regions hold, and its calls since its last accepted start
  pub core : State
  pub history : History
  -- the gate's 49 bytes, and what came to it since it began, newest first
  pub gate : List ℕ
  pub events : List Event

-- what comes to the gate at a call: its numbers, and nothing of a read
abbrev pub shown_of : Call → Reply → List Event → List Event
shown_of (start x) r es = G.started r.code ∷ es
shown_of (word w) r es = G.answered r.code ∷ es
shown_of (subframe area x) r es = G.subframe r.code r.mack ∷ es
shown_of (verdict v) r es = G.answered r.code ∷ es
shown_of (ask q) r es = es

-- lent the bytes g, the gate was shown the numbers of this call, and left g'
abbrev pub Shown : Both → Call → Reply → List ℕ → List ℕ → Type 0
Shown k (start x) r g g' = (a : Answer) × Did k.gate g (G.started r.code) a g'
Shown k (word w) r g g' = (a : Answer) × Did k.gate g (G.answered r.code) a g'
Shown k (subframe area x) r g g' = (a : Answer) × Did k.gate g (G.subframe r.code r.mack) a g'
Shown k (verdict v) r g g' = (a : Answer) × Did k.gate g (G.answered r.code) a g'
Shown k (ask q) r g g' = g' ≡ g

-- the answer of the core to the question for four satellites: yes
abbrev pub says_yes : State → ℕ → Bool
says_yes s limit = yes (four_read s limit).yes

-- a decision that asked the core in the state s: lent the bytes g, it gave this answer and left g'
pub record Asked (k : Both) (s : State) (g : List ℕ) (a : Answer) (g' : List ℕ) : Type 0 where
  pub args : AskArgs
  pub result : ℕ
  pub last : AskArgs
  -- it was lent the gate's bytes, and the core's clocks and arrivals
  pub gate_is : args.0.now ≡ g
  pub core_is : four_lent s args.1.0.now args.1.1.0.now ≡ s
  pub left_is : last.0.now ≡ g'
  pub told_is : answer result last.1.1.1.0.now ≡ a
  pub learnt : k.ask args result last

-- ---- a decision

-- what comes to the gate at a decision that asks
abbrev pub decision : Boom → Event
decision b = decide (says_yes b.core 20) (says_yes b.core 10)

-- what the caller hands the gate for a limit: what the core answered for it, or for a lower one where no sub-frame came for a while, or no
pub data Says (k : Both) (s : State) (limit : ℕ) : ℕ → Type 0 where
  answered : {lower : ℕ} {r : Reply} → lower ≤ limit → C.Did k.core s (ask (four lower)) r s → Says k s limit r.yes
  no : Says k s limit 0

-- The gate decides by what the core answers then, and this event comes to it: lent the core's two regions it asks itself, or the caller has asked and hands
-- it the answers. Questions change nothing, and the history here has those of decisions not among its reads.
pub data Decides (k : Both) (b : Boom) (a : Answer) (g : List ℕ) : Event → Type 0 where
  asking : Asked k b.core b.gate a g → Decides k b a g (decision b)
  told : {met20 met10 : ℕ} → Says k b.core 20 met20 → Says k b.core 10 met10 → DecideDid k.gate.decide b.gate (decide (yes met20) (yes met10)) a g
      → Decides k b a g (decide (yes met20) (yes met10))

-- ---- a run

pub data Run (k : Both) : Boom → Type 0 where
  -- an accepted start of the core, whatever its regions held, and a gate that begins
  begins : {s began : State} {x : Start} {g : List ℕ} → C.Did k.core s (start x) (plain 0) began → Began k.gate g
      → Run k (record { core = began; history = record { origin = x; began = began; log = [] }; gate = g; events = [] })
  -- a call of the core, refused or not, of which the gate is shown the numbers
  called : {b : Boom} {c : Call} {r : Reply} {s : State} {g : List ℕ} → Run k b → C.Did k.core b.core c r s → Shown k c r b.gate g
      → Run k (record { core = s; history = advanced b.history c r.code r s; gate = g; events = shown_of c r b.events })
  decides : {b : Boom} {e : Event} {a : Answer} {g : List ℕ} → Run k b → Decides k b a g e
      → Run k (record { core = b.core; history = b.history; gate = g; events = e ∷ b.events })

-- ---- what holds of every run

-- what stands behind valve k + 1 if a decision frees it
pub record Freed (b : Boom) (k : ℕ) : Type 0 where
  pub running : stopped b.core.config ≡ false
  -- "four authentic satellites no older than" its own limit, by the core's own state
  pub met : four_met b.core (limit_of k) ≡ true
  -- and each of them as demand 3 claims of a set that is read: tags of 40 bits, their keys, the root, its signature
  pub backed : FourBacked b.history.origin b.history.began (limit_of k) b.history.log

pub record SafeOf (k : Both) : Type 0 where
  -- the gate's claim speaks of these bytes
  pub bytes : (b : Boom) → Run k b → b.gate ≡ gate b.events
  -- the gate knows of a stop exactly when there is one
  pub stop_known : (b : Boom) → Run k b → stop_seen b.gate ≡ stopped b.core.config
  -- a decision that asks counts a valve's limit as met exactly when the core says yes to it and is not stopped
  pub counts : (b : Boom) → Run k b → (k : ℕ) → mets_of k (decision b ∷ b.events) ≡ (not (stopped b.core.config) && says_yes b.core (limit_of k)) ∷ mets_of k b.events
  -- every decision is answered 0, and tells the free valves
  pub answers : (b : Boom) (e : Event) (a : Answer) (g : List ℕ) → Run k b → Decides k b a g e → (a.code ≡ 0) × (a.free ≡ free_valves g)
  pub freed : (b : Boom) (e : Event) (a : Answer) (g : List ℕ) → Run k b → Decides k b a g e → (k : ℕ) → k < 48 → a.free / 2 ^ k % 2 ≡ 1 → Freed b k

abbrev pub Safe : Type 0
Safe = SafeOf written
