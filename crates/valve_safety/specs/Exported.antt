-- Runs of the gate's exported calls, of which their contracts, and nothing else, say what each gave and left. What they say is a parameter, `Clauses`.
-- `written` are the `ensures` of the calls of `valve_gate`, written out here, since a contract names nothing that the checker makes; proofs/Boundary.antt has
-- that they are what the checker makes of them: all that a caller learns. For each call, from its parameters at entry (`args`) and at exit (`last`), of which
-- `.0` is the first, `.1 .0` the second and so on: the bytes that it was lent, the event, the bytes that it left, and its answer.
use Rattle.std.specs.Prelude.{ℕ, ◌≡◌, List, [], ◌∷◌}
use Rattle.std.specs.Borrow.{MutBor}
use Rattle.assurance.specs.Run.{Clause}
use Rattle.valve_rules.specs.Claim.{Claim, Event, started, answered, subframe, decide, gate}
use Rattle.valve_rules.specs.Gate.{free_valves, yes}
use Rattle.valve_rules.specs.Gate as S

-- what a call gives: its number, and the free valves of a decision
pub record Answer : Type 0 where
  pub code : ℕ
  pub free : ℕ

abbrev pub answer : ℕ → ℕ → Answer
answer n f = record { code = n; free = f }

-- ---- a call that was made

-- Lent the bytes g, the call for the event e gave this answer and left g': its contract held. Of the call: its parameters at entry and at exit, and what its
-- contract says; then how parameters are read
pub record Made (Args : Type 0)
    (Learnt : Clause Args)
    (lent : Args → List ℕ)
    (event : Args → Event)
    (left : Args → List ℕ)
    (told : ℕ → Args → Answer)
    (g : List ℕ) (e : Event) (a : Answer) (g' : List ℕ)
    : Type 0 where
  pub args : Args
  pub result : ℕ
  pub last : Args
  pub lent_is : lent args ≡ g
  pub event_is : event args ≡ e
  pub left_is : left last ≡ g'
  pub told_is : told result last ≡ a
  pub learnt : Learnt args result last

-- the state of the gate, lent to be written
abbrev pub Bytes : Type 0
Bytes = MutBor (List ℕ)

abbrev pub StartedArgs : Type 0
StartedArgs = Bytes × (ℕ × Unit {0})

abbrev pub StartedLearnt : Clause StartedArgs
StartedLearnt (bytes, (number, _)) r (bytes', _) = S.shown r bytes'.now ≡ S.if_lent bytes.now (S.start_shown bytes.now number)

abbrev pub StartedDid : Clause StartedArgs → List ℕ → Event → Answer → List ℕ → Type 0
StartedDid Learnt =
    Made StartedArgs Learnt (λ args. args.0.now) (λ args. started args.1.0)
    (λ last. last.0.now) (λ r last. answer r 0)

abbrev pub AnsweredArgs : Type 0
AnsweredArgs = Bytes × (ℕ × Unit {0})

abbrev pub AnsweredLearnt : Clause AnsweredArgs
AnsweredLearnt (bytes, (number, _)) r (bytes', _) = S.shown r bytes'.now ≡ S.if_lent bytes.now (S.answer_shown bytes.now number)

abbrev pub AnsweredDid : Clause AnsweredArgs → List ℕ → Event → Answer → List ℕ → Type 0
AnsweredDid Learnt =
    Made AnsweredArgs Learnt (λ args. args.0.now) (λ args. answered args.1.0)
    (λ last. last.0.now) (λ r last. answer r 0)

abbrev pub SubframeArgs : Type 0
SubframeArgs = Bytes × (ℕ × (ℕ × Unit {0}))

abbrev pub SubframeLearnt : Clause SubframeArgs
SubframeLearnt (bytes, (hkroot, (mack, _))) r (bytes', _) = S.shown r bytes'.now ≡ S.if_lent bytes.now (S.subframe_shown bytes.now hkroot mack)

abbrev pub SubframeDid : Clause SubframeArgs → List ℕ → Event → Answer → List ℕ → Type 0
SubframeDid Learnt =
    Made SubframeArgs Learnt (λ args. args.0.now) (λ args. subframe args.1.0 args.1.1.0)
    (λ last. last.0.now) (λ r last. answer r 0)

abbrev pub DecideArgs : Type 0
DecideArgs = Bytes × (ℕ × (ℕ × (MutBor ℕ × Unit {0})))

abbrev pub DecideLearnt : Clause DecideArgs
DecideLearnt (bytes, (met20, (met10, _))) r (bytes', (_, (_, (free', _)))) = S.decision r bytes'.now free'.now ≡ S.decide_call bytes.now met20 met10

abbrev pub DecideDid : Clause DecideArgs → List ℕ → Event → Answer → List ℕ → Type 0
DecideDid Learnt =
    Made DecideArgs Learnt (λ args. args.0.now) (λ args. decide (yes args.1.0) (yes args.1.1.0))
    (λ last. last.0.now) (λ r last. answer r last.1.1.1.0.now)

abbrev pub BeginArgs : Type 0
BeginArgs = Bytes × Unit {0}

abbrev pub BeginLearnt : Clause BeginArgs
BeginLearnt (bytes, _) r (bytes', _) = S.shown r bytes'.now ≡ S.if_lent bytes.now S.begun

-- ---- the contracts of all five

pub record Clauses : Type 1 where
  pub begin : Clause BeginArgs
  pub started : Clause StartedArgs
  pub answered : Clause AnsweredArgs
  pub subframe : Clause SubframeArgs
  pub decide : Clause DecideArgs

abbrev pub written : Clauses
written = record { begin = BeginLearnt; started = StartedLearnt; answered = AnsweredLearnt; subframe = SubframeLearnt; decide = DecideLearnt }

-- ---- a run

pub data Did (k : Clauses) (g : List ℕ) (e : Event) (a : Answer) (g' : List ℕ) : Type 0 where
  start_shown : StartedDid k.started g e a g' → Did k g e a g'
  answer_shown : AnsweredDid k.answered g e a g' → Did k g e a g'
  subframe_shown : SubframeDid k.subframe g e a g' → Did k g e a g'
  decided : DecideDid k.decide g e a g' → Did k g e a g'

-- a begin answered 0 left these bytes, whatever it was lent
pub record Began (k : Clauses) (g : List ℕ) : Type 0 where
  pub args : BeginArgs
  pub last : BeginArgs
  pub learnt : k.begin args 0 last
  pub left_is : last.0.now ≡ g

-- the bytes that events, newest first, leave; "Nobody else writes them"
pub data Run (k : Clauses) : List Event → List ℕ → Type 0 where
  begins : {g : List ℕ} → Began k g → Run k [] g
  goes_on : {es : List Event} {g g' : List ℕ} {e : Event} {a : Answer} → Run k es g → Did k g e a g' → Run k (e ∷ es) g'

-- ---- the claim of the exported calls

pub record ClaimOf (k : Clauses) : Type 0 where
  pub claim : Claim
  -- the bytes are those of which the claim speaks
  pub bytes : (es : List Event) (g : List ℕ) → Run k es g → g ≡ gate es
  -- every call is answered 0
  pub answers : (es : List Event) (g g' : List ℕ) (e : Event) (a : Answer) → Run k es g → Did k g e a g' → a.code ≡ 0
  -- and a decision gives their free valves
  pub frees : (es : List Event) (g g' : List ℕ) (e : Event) (a : Answer) → Run k es g → DecideDid k.decide g e a g' → a.free ≡ free_valves (gate (e ∷ es))

abbrev pub ExportedGate : Type 0
ExportedGate = ClaimOf written
