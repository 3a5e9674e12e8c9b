-- The contract of each exported call IS the rule: what a caller learns (`Learnt`, which the checker makes of the `ensures`) is the equation with the
-- definition (`..Learnt` of specs/Run.antt), in both directions, and a call asks nothing (`Asked`). A weaker `ensures` of the boundary makes this crate fail.
-- `args` are the parameters at entry, `last` those at exit. A call that is lent some of the regions has the equation for every state that has them.
-- Assumes nothing.
use mathlib.Core.List.{[]}
use Prim.Native.Nat.{ℕ, zero, suc}
use contract.Lifetimes.{Lfts}
use borrow.Fn.Kinds.{Dens, ended_of}
use denote.Triple.Clauses.{AtExit}
use Rattle.osnma.proofs.osnma_regions_start.Reads as start-reads
use Rattle.osnma.proofs.osnma_regions_start.Kinds as start-kinds
use Rattle.osnma.proofs.osnma_regions_word.Reads as word-reads
use Rattle.osnma.proofs.osnma_regions_word.Kinds as word-kinds
use Rattle.osnma.proofs.osnma_regions_subframe.Reads as subframe-reads
use Rattle.osnma.proofs.osnma_regions_subframe.Kinds as subframe-kinds
use Rattle.osnma.proofs.osnma_regions_verdict.Reads as verdict-reads
use Rattle.osnma.proofs.osnma_regions_verdict.Kinds as verdict-kinds
use Rattle.osnma.proofs.osnma_regions_read_set.Reads as read-set-reads
use Rattle.osnma.proofs.osnma_regions_read_set.Kinds as read-set-kinds
use Rattle.osnma.proofs.osnma_regions_read_message.Reads as read-message-reads
use Rattle.osnma.proofs.osnma_regions_read_message.Kinds as read-message-kinds
use Rattle.osnma.proofs.osnma_regions_four.Reads as four-reads
use Rattle.osnma.proofs.osnma_regions_four.Kinds as four-kinds
use Rattle.osnma.proofs.osnma_regions_progress.Reads as progress-reads
use Rattle.osnma.proofs.osnma_regions_progress.Kinds as progress-kinds
use Rattle.assurance.specs.Run.{StartArgs, WordArgs, SubframeArgs, VerdictArgs, ReadSetArgs, ReadOfferArgs, FourArgs, ProgressArgs, StartLearnt, WordLearnt, SubframeLearnt, VerdictLearnt, ReadSetLearnt, ReadOfferLearnt, FourLearnt, ProgressLearnt, Clauses, written}
use Rattle.assurance.proofs.Contracts.{contracts}

-- ---- start: its number, and all sixteen regions at exit

pub start_asks_nothing : (κs : Lfts 19) (args : Dens κs start-kinds.ps) → start-reads.Asked κs args
start_asks_nothing κs args = tt

abbrev start_rule : (κs : Lfts 19) (args : Dens κs start-kinds.ps) (r : ℕ) (last : AtExit (ended_of 19 start-kinds.ps start-kinds.r) κs) → Type 0
start_rule κs = StartLearnt

pub start_is : (κs : Lfts 19) (args : Dens κs start-kinds.ps) (r : ℕ) (last : AtExit (ended_of 19 start-kinds.ps start-kinds.r) κs) → start-reads.Learnt κs args r last → start_rule κs args r last
start_is κs args r last d = d

pub start_only : (κs : Lfts 19) (args : Dens κs start-kinds.ps) (r : ℕ) (last : AtExit (ended_of 19 start-kinds.ps start-kinds.r) κs) → start_rule κs args r last → start-reads.Learnt κs args r last
start_only κs args r last d = d

-- ---- word: its number, and its clocks, words and stamps at exit

pub word_asks_nothing : (κs : Lfts 5) (args : Dens κs word-kinds.ps) → word-reads.Asked κs args
word_asks_nothing κs args = tt

abbrev word_rule : (κs : Lfts 5) (args : Dens κs word-kinds.ps) (r : ℕ) (last : AtExit (ended_of 5 word-kinds.ps word-kinds.r) κs) → Type 0
word_rule κs = WordLearnt

pub word_is : (κs : Lfts 5) (args : Dens κs word-kinds.ps) (r : ℕ) (last : AtExit (ended_of 5 word-kinds.ps word-kinds.r) κs) → word-reads.Learnt κs args r last → word_rule κs args r last
word_is κs args r last d = d

pub word_only : (κs : Lfts 5) (args : Dens κs word-kinds.ps) (r : ℕ) (last : AtExit (ended_of 5 word-kinds.ps word-kinds.r) κs) → word_rule κs args r last → word-reads.Learnt κs args r last
word_only κs args r last d = d

-- ---- sub-frame: both numbers, the count of tag records, the record area, and all regions but words, stamps and chain at exit

pub subframe_asks_nothing : (κs : Lfts 20) (args : Dens κs subframe-kinds.ps) → subframe-reads.Asked κs args
subframe_asks_nothing κs args = tt

abbrev subframe_rule : (κs : Lfts 20) (args : Dens κs subframe-kinds.ps) (r : ℕ) (last : AtExit (ended_of 20 subframe-kinds.ps subframe-kinds.r) κs) → Type 0
subframe_rule κs = SubframeLearnt

pub subframe_is : (κs : Lfts 20) (args : Dens κs subframe-kinds.ps) (r : ℕ) (last : AtExit (ended_of 20 subframe-kinds.ps subframe-kinds.r) κs) → subframe-reads.Learnt κs args r last → subframe_rule κs args r last
subframe_is κs args r last d = d

pub subframe_only : (κs : Lfts 20) (args : Dens κs subframe-kinds.ps) (r : ℕ) (last : AtExit (ended_of 20 subframe-kinds.ps subframe-kinds.r) κs) → subframe_rule κs args r last → subframe-reads.Learnt κs args r last
subframe_only κs args r last d = d

-- ---- verdict: its number, and all of its regions but the settings at exit

pub verdict_asks_nothing : (κs : Lfts 10) (args : Dens κs verdict-kinds.ps) → verdict-reads.Asked κs args
verdict_asks_nothing κs args = tt

abbrev verdict_rule : (κs : Lfts 10) (args : Dens κs verdict-kinds.ps) (r : ℕ) (last : AtExit (ended_of 10 verdict-kinds.ps verdict-kinds.r) κs) → Type 0
verdict_rule κs = VerdictLearnt

pub verdict_is : (κs : Lfts 10) (args : Dens κs verdict-kinds.ps) (r : ℕ) (last : AtExit (ended_of 10 verdict-kinds.ps verdict-kinds.r) κs) → verdict-reads.Learnt κs args r last → verdict_rule κs args r last
verdict_is κs args r last d = d

pub verdict_only : (κs : Lfts 10) (args : Dens κs verdict-kinds.ps) (r : ℕ) (last : AtExit (ended_of 10 verdict-kinds.ps verdict-kinds.r) κs) → verdict_rule κs args r last → verdict-reads.Learnt κs args r last
verdict_only κs args r last d = d

-- ---- the read of an authentic set: its number, its 69 bytes, IODnav and GST_SF at exit

pub read_set_asks_nothing : (κs : Lfts 5) (args : Dens κs read-set-kinds.ps) → read-set-reads.Asked κs args
read_set_asks_nothing κs args = tt

abbrev read_set_rule : (κs : Lfts 5) (args : Dens κs read-set-kinds.ps) (r : ℕ) (last : AtExit (ended_of 5 read-set-kinds.ps read-set-kinds.r) κs) → Type 0
read_set_rule κs = ReadSetLearnt

pub read_set_is : (κs : Lfts 5) (args : Dens κs read-set-kinds.ps) (r : ℕ) (last : AtExit (ended_of 5 read-set-kinds.ps read-set-kinds.r) κs) → read-set-reads.Learnt κs args r last → read_set_rule κs args r last
read_set_is κs args r last d = d

pub read_set_only : (κs : Lfts 5) (args : Dens κs read-set-kinds.ps) (r : ℕ) (last : AtExit (ended_of 5 read-set-kinds.ps read-set-kinds.r) κs) → read_set_rule κs args r last → read-set-reads.Learnt κs args r last
read_set_only κs args r last d = d

-- ---- the read of what waits: its number, message, signature, key, key ID and type at exit

pub read_message_asks_nothing : (κs : Lfts 7) (args : Dens κs read-message-kinds.ps) → read-message-reads.Asked κs args
read_message_asks_nothing κs args = tt

abbrev read_message_rule : (κs : Lfts 7) (args : Dens κs read-message-kinds.ps) (r : ℕ) (last : AtExit (ended_of 7 read-message-kinds.ps read-message-kinds.r) κs) → Type 0
read_message_rule κs = ReadOfferLearnt

pub read_message_is : (κs : Lfts 7) (args : Dens κs read-message-kinds.ps) (r : ℕ) (last : AtExit (ended_of 7 read-message-kinds.ps read-message-kinds.r) κs) → read-message-reads.Learnt κs args r last → read_message_rule κs args r last
read_message_is κs args r last d = d

pub read_message_only : (κs : Lfts 7) (args : Dens κs read-message-kinds.ps) (r : ℕ) (last : AtExit (ended_of 7 read-message-kinds.ps read-message-kinds.r) κs) → read_message_rule κs args r last → read-message-reads.Learnt κs args r last
read_message_only κs args r last d = d

-- ---- the question for four satellites: its number, and its yes or no at exit

pub four_asks_nothing : (κs : Lfts 3) (args : Dens κs four-kinds.ps) → four-reads.Asked κs args
four_asks_nothing κs args = tt

abbrev four_rule : (κs : Lfts 3) (args : Dens κs four-kinds.ps) (r : ℕ) (last : AtExit (ended_of 3 four-kinds.ps four-kinds.r) κs) → Type 0
four_rule κs = FourLearnt

pub four_is : (κs : Lfts 3) (args : Dens κs four-kinds.ps) (r : ℕ) (last : AtExit (ended_of 3 four-kinds.ps four-kinds.r) κs) → four-reads.Learnt κs args r last → four_rule κs args r last
four_is κs args r last d = d

pub four_only : (κs : Lfts 3) (args : Dens κs four-kinds.ps) (r : ℕ) (last : AtExit (ended_of 3 four-kinds.ps four-kinds.r) κs) → four_rule κs args r last → four-reads.Learnt κs args r last
four_only κs args r last d = d

-- ---- the question for the progress of messages: its number, and its 32 bytes at exit

pub progress_asks_nothing : (κs : Lfts 3) (args : Dens κs progress-kinds.ps) → progress-reads.Asked κs args
progress_asks_nothing κs args = tt

abbrev progress_rule : (κs : Lfts 3) (args : Dens κs progress-kinds.ps) (r : ℕ) (last : AtExit (ended_of 3 progress-kinds.ps progress-kinds.r) κs) → Type 0
progress_rule κs = ProgressLearnt

pub progress_is : (κs : Lfts 3) (args : Dens κs progress-kinds.ps) (r : ℕ) (last : AtExit (ended_of 3 progress-kinds.ps progress-kinds.r) κs) → progress-reads.Learnt κs args r last → progress_rule κs args r last
progress_is κs args r last d = d

pub progress_only : (κs : Lfts 3) (args : Dens κs progress-kinds.ps) (r : ℕ) (last : AtExit (ended_of 3 progress-kinds.ps progress-kinds.r) κs) → progress_rule κs args r last → progress-reads.Learnt κs args r last
progress_only κs args r last d = d

-- ---- all eight

-- the contracts of k say at least what those of l say
pub record Says (k l : Clauses) : Type 0 where
  pub start : (args : StartArgs) (r : ℕ) (last : StartArgs) → k.start args r last → l.start args r last
  pub word : (args : WordArgs) (r : ℕ) (last : WordArgs) → k.word args r last → l.word args r last
  pub subframe : (args : SubframeArgs) (r : ℕ) (last : SubframeArgs) → k.subframe args r last → l.subframe args r last
  pub verdict : (args : VerdictArgs) (r : ℕ) (last : VerdictArgs) → k.verdict args r last → l.verdict args r last
  pub read_set : (args : ReadSetArgs) (r : ℕ) (last : ReadSetArgs) → k.read_set args r last → l.read_set args r last
  pub read_offer : (args : ReadOfferArgs) (r : ℕ) (last : ReadOfferArgs) → k.read_offer args r last → l.read_offer args r last
  pub four : (args : FourArgs) (r : ℕ) (last : FourArgs) → k.four args r last → l.four args r last
  pub progress : (args : ProgressArgs) (r : ℕ) (last : ProgressArgs) → k.progress args r last → l.progress args r last

-- lifetimes: none is named
none : (n : ℕ) → Lfts n
none zero = tt
none (suc n) = ([], none n)

pub contracts_say : Says contracts written
contracts_say =
    record {
      start = λ args r last d. start_is d.0 args r last d.1;
      word = λ args r last d. word_is d.0 args r last d.1;
      subframe = λ args r last d. subframe_is d.0 args r last d.1;
      verdict = λ args r last d. verdict_is d.0 args r last d.1;
      read_set = λ args r last d. read_set_is d.0 args r last d.1;
      read_offer = λ args r last d. read_message_is d.0 args r last d.1;
      four = λ args r last d. four_is d.0 args r last d.1;
      progress = λ args r last d. progress_is d.0 args r last d.1;
    }

pub written_says : Says written contracts
written_says =
    record {
      start = λ args r last d. (none 19, start_only (none 19) args r last d);
      word = λ args r last d. (none 5, word_only (none 5) args r last d);
      subframe = λ args r last d. (none 20, subframe_only (none 20) args r last d);
      verdict = λ args r last d. (none 10, verdict_only (none 10) args r last d);
      read_set = λ args r last d. (none 5, read_set_only (none 5) args r last d);
      read_offer = λ args r last d. (none 7, read_message_only (none 7) args r last d);
      four = λ args r last d. (none 3, four_only (none 3) args r last d);
      progress = λ args r last d. (none 3, progress_only (none 3) args r last d);
    }
