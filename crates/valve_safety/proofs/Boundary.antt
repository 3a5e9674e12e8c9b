-- The contract of each of the gate's exported calls IS the rule: what a caller learns (`Learnt`, which the checker makes of the `ensures`) is the equation
-- with the definition (`..Learnt` of specs/), in both directions, and a call asks nothing (`Asked`). A weaker `ensures` of the boundary makes this crate fail.
-- `args` are the parameters at entry, `last` those at exit. Assumes nothing.
use mathlib.Core.List.{[]}
use Prim.Native.Nat.{ℕ, zero, suc}
use contract.Lifetimes.{Lfts}
use borrow.Fn.Kinds.{Dens, ended_of}
use denote.Triple.Clauses.{AtExit}
use Rattle.valve_gate.proofs.valve_gate_state_begin.Reads as begin-reads
use Rattle.valve_gate.proofs.valve_gate_state_begin.Kinds as begin-kinds
use Rattle.valve_gate.proofs.valve_gate_state_started.Reads as started-reads
use Rattle.valve_gate.proofs.valve_gate_state_started.Kinds as started-kinds
use Rattle.valve_gate.proofs.valve_gate_state_answered.Reads as answered-reads
use Rattle.valve_gate.proofs.valve_gate_state_answered.Kinds as answered-kinds
use Rattle.valve_gate.proofs.valve_gate_state_subframe.Reads as subframe-reads
use Rattle.valve_gate.proofs.valve_gate_state_subframe.Kinds as subframe-kinds
use Rattle.valve_gate.proofs.valve_gate_state_decide.Reads as decide-reads
use Rattle.valve_gate.proofs.valve_gate_state_decide.Kinds as decide-kinds
use Rattle.valve_gate.proofs.valve_gate_core_decide.Reads as ask-reads
use Rattle.valve_gate.proofs.valve_gate_core_decide.Kinds as ask-kinds
use Rattle.assurance.proofs.Boundary as C
use Rattle.valve_safety.specs.Exported.{BeginArgs, BeginLearnt, StartedArgs, StartedLearnt, AnsweredArgs, AnsweredLearnt, SubframeArgs, SubframeLearnt, DecideArgs, DecideLearnt, Clauses}
use Rattle.valve_safety.specs.Safety.{AskArgs, AskLearnt, Both, written}
use Rattle.valve_safety.proofs.Contracts.{contracts}

-- ---- a beginning

pub begin_asks_nothing : (κs : Lfts 1) (args : Dens κs begin-kinds.ps) → begin-reads.Asked κs args
begin_asks_nothing κs args = tt

abbrev begin_rule : (κs : Lfts 1) (args : Dens κs begin-kinds.ps) (r : ℕ) (last : AtExit (ended_of 1 begin-kinds.ps begin-kinds.r) κs) → Type 0
begin_rule κs = BeginLearnt

pub begin_is : (κs : Lfts 1) (args : Dens κs begin-kinds.ps) (r : ℕ) (last : AtExit (ended_of 1 begin-kinds.ps begin-kinds.r) κs) → begin-reads.Learnt κs args r last → begin_rule κs args r last
begin_is κs args r last d = d

pub begin_only : (κs : Lfts 1) (args : Dens κs begin-kinds.ps) (r : ℕ) (last : AtExit (ended_of 1 begin-kinds.ps begin-kinds.r) κs) → begin_rule κs args r last → begin-reads.Learnt κs args r last
begin_only κs args r last d = d

-- ---- the number of a start

pub started_asks_nothing : (κs : Lfts 1) (args : Dens κs started-kinds.ps) → started-reads.Asked κs args
started_asks_nothing κs args = tt

abbrev started_rule : (κs : Lfts 1) (args : Dens κs started-kinds.ps) (r : ℕ) (last : AtExit (ended_of 1 started-kinds.ps started-kinds.r) κs) → Type 0
started_rule κs = StartedLearnt

pub started_is : (κs : Lfts 1) (args : Dens κs started-kinds.ps) (r : ℕ) (last : AtExit (ended_of 1 started-kinds.ps started-kinds.r) κs) → started-reads.Learnt κs args r last → started_rule κs args r last
started_is κs args r last d = d

pub started_only : (κs : Lfts 1) (args : Dens κs started-kinds.ps) (r : ℕ) (last : AtExit (ended_of 1 started-kinds.ps started-kinds.r) κs) → started_rule κs args r last → started-reads.Learnt κs args r last
started_only κs args r last d = d

-- ---- the number of a word or a verdict

pub answered_asks_nothing : (κs : Lfts 1) (args : Dens κs answered-kinds.ps) → answered-reads.Asked κs args
answered_asks_nothing κs args = tt

abbrev answered_rule : (κs : Lfts 1) (args : Dens κs answered-kinds.ps) (r : ℕ) (last : AtExit (ended_of 1 answered-kinds.ps answered-kinds.r) κs) → Type 0
answered_rule κs = AnsweredLearnt

pub answered_is : (κs : Lfts 1) (args : Dens κs answered-kinds.ps) (r : ℕ) (last : AtExit (ended_of 1 answered-kinds.ps answered-kinds.r) κs) → answered-reads.Learnt κs args r last → answered_rule κs args r last
answered_is κs args r last d = d

pub answered_only : (κs : Lfts 1) (args : Dens κs answered-kinds.ps) (r : ℕ) (last : AtExit (ended_of 1 answered-kinds.ps answered-kinds.r) κs) → answered_rule κs args r last → answered-reads.Learnt κs args r last
answered_only κs args r last d = d

-- ---- the numbers of a sub-frame

pub subframe_asks_nothing : (κs : Lfts 1) (args : Dens κs subframe-kinds.ps) → subframe-reads.Asked κs args
subframe_asks_nothing κs args = tt

abbrev subframe_rule : (κs : Lfts 1) (args : Dens κs subframe-kinds.ps) (r : ℕ) (last : AtExit (ended_of 1 subframe-kinds.ps subframe-kinds.r) κs) → Type 0
subframe_rule κs = SubframeLearnt

pub subframe_is : (κs : Lfts 1) (args : Dens κs subframe-kinds.ps) (r : ℕ) (last : AtExit (ended_of 1 subframe-kinds.ps subframe-kinds.r) κs) → subframe-reads.Learnt κs args r last → subframe_rule κs args r last
subframe_is κs args r last d = d

pub subframe_only : (κs : Lfts 1) (args : Dens κs subframe-kinds.ps) (r : ℕ) (last : AtExit (ended_of 1 subframe-kinds.ps subframe-kinds.r) κs) → subframe_rule κs args r last → subframe-reads.Learnt κs args r last
subframe_only κs args r last d = d

-- ---- a decision by what the core answered

pub decide_asks_nothing : (κs : Lfts 2) (args : Dens κs decide-kinds.ps) → decide-reads.Asked κs args
decide_asks_nothing κs args = tt

abbrev decide_rule : (κs : Lfts 2) (args : Dens κs decide-kinds.ps) (r : ℕ) (last : AtExit (ended_of 2 decide-kinds.ps decide-kinds.r) κs) → Type 0
decide_rule κs = DecideLearnt

pub decide_is : (κs : Lfts 2) (args : Dens κs decide-kinds.ps) (r : ℕ) (last : AtExit (ended_of 2 decide-kinds.ps decide-kinds.r) κs) → decide-reads.Learnt κs args r last → decide_rule κs args r last
decide_is κs args r last d = d

pub decide_only : (κs : Lfts 2) (args : Dens κs decide-kinds.ps) (r : ℕ) (last : AtExit (ended_of 2 decide-kinds.ps decide-kinds.r) κs) → decide_rule κs args r last → decide-reads.Learnt κs args r last
decide_only κs args r last d = d

-- ---- a decision that asks the core

pub ask_asks_nothing : (κs : Lfts 4) (args : Dens κs ask-kinds.ps) → ask-reads.Asked κs args
ask_asks_nothing κs args = tt

abbrev ask_rule : (κs : Lfts 4) (args : Dens κs ask-kinds.ps) (r : ℕ) (last : AtExit (ended_of 4 ask-kinds.ps ask-kinds.r) κs) → Type 0
ask_rule κs = AskLearnt

pub ask_is : (κs : Lfts 4) (args : Dens κs ask-kinds.ps) (r : ℕ) (last : AtExit (ended_of 4 ask-kinds.ps ask-kinds.r) κs) → ask-reads.Learnt κs args r last → ask_rule κs args r last
ask_is κs args r last d = d

pub ask_only : (κs : Lfts 4) (args : Dens κs ask-kinds.ps) (r : ℕ) (last : AtExit (ended_of 4 ask-kinds.ps ask-kinds.r) κs) → ask_rule κs args r last → ask-reads.Learnt κs args r last
ask_only κs args r last d = d

-- ---- all of them

-- the gate's contracts of k say at least what those of l say
pub record GateSays (k l : Clauses) : Type 0 where
  pub begin : (args : BeginArgs) (r : ℕ) (last : BeginArgs) → k.begin args r last → l.begin args r last
  pub started : (args : StartedArgs) (r : ℕ) (last : StartedArgs) → k.started args r last → l.started args r last
  pub answered : (args : AnsweredArgs) (r : ℕ) (last : AnsweredArgs) → k.answered args r last → l.answered args r last
  pub subframe : (args : SubframeArgs) (r : ℕ) (last : SubframeArgs) → k.subframe args r last → l.subframe args r last
  pub decide : (args : DecideArgs) (r : ℕ) (last : DecideArgs) → k.decide args r last → l.decide args r last

-- and those of both
pub record Says (k l : Both) : Type 0 where
  pub core : C.Says k.core l.core
  pub gate : GateSays k.gate l.gate
  pub ask : (args : AskArgs) (r : ℕ) (last : AskArgs) → k.ask args r last → l.ask args r last

-- lifetimes: none is named
none : (n : ℕ) → Lfts n
none zero = tt
none (suc n) = ([], none n)

pub contracts_say : Says contracts written
contracts_say =
    record {
      core = C.contracts_say;
      gate = record {
        begin = λ args r last d. begin_is d.0 args r last d.1;
        started = λ args r last d. started_is d.0 args r last d.1;
        answered = λ args r last d. answered_is d.0 args r last d.1;
        subframe = λ args r last d. subframe_is d.0 args r last d.1;
        decide = λ args r last d. decide_is d.0 args r last d.1;
      };
      ask = λ args r last d. ask_is d.0 args r last d.1;
    }

pub written_says : Says written contracts
written_says =
    record {
      core = C.written_says;
      gate = record {
        begin = λ args r last d. (none 1, begin_only (none 1) args r last d);
        started = λ args r last d. (none 1, started_only (none 1) args r last d);
        answered = λ args r last d. (none 1, answered_only (none 1) args r last d);
        subframe = λ args r last d. (none 1, subframe_only (none 1) args r last d);
        decide = λ args r last d. (none 2, decide_only (none 2) args r last d);
      };
      ask = λ args r last d. (none 4, ask_only (none 4) args r last d);
    }
