-- The contracts of the calls of `osnma` as the checker makes them: what a caller learns of each, `Learnt`, whatever its lifetimes, of which none is named.
-- proofs/Boundary.antt has that they say what is written out in specs/Run.antt.
use contract.Lifetimes.{Lfts}
use Rattle.assurance.specs.Run.{Clauses}
use Rattle.osnma.proofs.osnma_regions_start.Reads as start-reads
use Rattle.osnma.proofs.osnma_regions_word.Reads as word-reads
use Rattle.osnma.proofs.osnma_regions_subframe.Reads as subframe-reads
use Rattle.osnma.proofs.osnma_regions_verdict.Reads as verdict-reads
use Rattle.osnma.proofs.osnma_regions_read_set.Reads as read-set-reads
use Rattle.osnma.proofs.osnma_regions_read_message.Reads as read-message-reads
use Rattle.osnma.proofs.osnma_regions_four.Reads as four-reads
use Rattle.osnma.proofs.osnma_regions_progress.Reads as progress-reads

abbrev pub contracts : Clauses
contracts =
    record {
      start = λ args r last. (κs : Lfts 19) × start-reads.Learnt κs args r last;
      word = λ args r last. (κs : Lfts 5) × word-reads.Learnt κs args r last;
      subframe = λ args r last. (κs : Lfts 20) × subframe-reads.Learnt κs args r last;
      verdict = λ args r last. (κs : Lfts 10) × verdict-reads.Learnt κs args r last;
      read_set = λ args r last. (κs : Lfts 5) × read-set-reads.Learnt κs args r last;
      read_offer = λ args r last. (κs : Lfts 7) × read-message-reads.Learnt κs args r last;
      four = λ args r last. (κs : Lfts 3) × four-reads.Learnt κs args r last;
      progress = λ args r last. (κs : Lfts 3) × progress-reads.Learnt κs args r last;
    }
