-- `Session::verdict` meets its contract: 11 before a start, or the call at the record's parts.
use Rattle.laws.specs.Lists.{part}
use Rattle.rules.specs.Replay.{verdict_of}
use Rattle.replay_answers.specs.Answers.{state_of}
use Rattle.replay_answers.proofs.Answered.{verdict_answered_lem}
use Rattle.replay_answers.proofs.Session.verdict.Goals as goal

pub returns : goal.returns
unfolding verdict_of part
returns c =
    let message = rw c.unwrap.ensures at c.as_array.ensures.cases in
    let signature = rw c.unwrap-2.ensures at c.as_array-2.ensures.cases in
    verdict_answered_lem (state_of c.args.self.now.core) _ _ _ _ _ c.if-self-eq0.false
    (rw c.answer_number.ensures (rw (message.same, signature.same) at (c.judge_verdict.ensures (state_of c.args.self.now.core))))
