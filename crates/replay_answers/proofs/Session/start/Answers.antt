-- `Session::start` meets its contract: a refusal changes nothing, and an accepted start writes every part of the state.
use borrow.Author.Rules.{rules}
use mathlib.Core.Path.{◌≡◌, sym, ◌∙◌}
use lib.ListN.{length}
use Rattle.call_start.proofs.Started.{all-written}
use Rattle.laws.specs.Lists.{part}
use Rattle.laws.specs.Refusal.{first_refusal}
use Rattle.rules.specs.Calls.{start_checks}
use Rattle.rules.specs.Refusals.{answer_number}
use Rattle.rules.specs.Replay.{start_of, record_length}
use Rattle.replay_answers.specs.Answers.{state_of}
use Rattle.replay_answers.proofs.Answered.{start_lent, start_refused, start_accepted}
use Rattle.replay_answers.proofs.Session.start.Goals as goal
use Rattle.replay_answers.proofs.Session.start.Goals.{After-start_refusal}

-- the number is that of the rule's checks
number_is : (c : After-start_refusal) → answer_number c.start_refusal.result ≡ first_refusal (start_checks (state_of c.args.self.now.core) (start_of c.args.bytes.now))
unfolding start_of part
number_is c =
    let long : length c.args.bytes.now ≡ record_length = search rules in
    let s = state_of c.args.self.now.core in
    c.start_refusal.ensures.0 s _ _ _ (start_lent s c.args.bytes.now long ∙ sym c.shaped-fits.ensures)

pub returns-in_err-start_refusal : goal.returns-in_err-start_refusal
returns-in_err-start_refusal c =
    let e : c.from_residual.result ≡ c.start_refusal.result = search rules in
    rw (e, c.in_err-start_refusal.was)
    (start_refused (state_of c.args.self.now.core) _ _ _ _ (rw c.in_err-start_refusal.was at (number_is (goal.at.returns-in_err-start_refusal c).After-start_refusal)))

pub returns : goal.returns
unfolding start_of part
returns c =
    let marks = rw c.unwrap.ensures at c.as_array.ensures.cases in
    let root = rw c.unwrap-2.ensures at c.as_array-2.ensures.cases in
    let key = rw c.unwrap-3.ensures at c.as_array-3.ensures.cases in
    let t = rw (marks.same, root.same) at c.install_settings.ensures in
    let k = rw key.same at c.install_key.ensures in
    start_accepted (state_of c.args.self.now.core) _ _ c.args.bytes.now
    (rw c.in_ok-start_refusal.was at (number_is (goal.at.returns c).After-start_refusal)) _
    (all-written (start_of c.args.bytes.now) _ _ _ _ _ _ _ _ _ t.0 t.1 k.0 k.1)
