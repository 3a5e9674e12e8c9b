-- `Session::word` meets its contract: 11 before a start, or the call at the record's parts.
use Rattle.laws.specs.Lists.{part}
use Rattle.rules.specs.Replay.{word_of}
use Rattle.replay_answers.specs.Answers.{state_of}
use Rattle.replay_answers.proofs.Answered.{word_answered_lem}
use Rattle.replay_answers.proofs.Session.word.Goals as goal

pub returns : goal.returns
unfolding word_of part
returns c =
    let whole = rw c.unwrap.ensures at c.as_array.ensures.cases in
    word_answered_lem (state_of c.args.self.now.core) _ _ _ _ _ c.if-self-eq0.false
    (rw c.answer_number.ensures (rw (c.get_u32.ensures, whole.same) at (c.take_word.ensures (state_of c.args.self.now.core))))
