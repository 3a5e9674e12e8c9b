-- `call_verdict::judge_verdict` meets its contract: 2 and 4, and the checks against what waits.
use mathlib.Core.Path.{◌≡◌}
use mathlib.Core.Bool.{true, ◌&&◌}
use lib.Dec.{eqb}
use lib.ListN.{length}
use native.Mathlib.Omega.{arith}
use borrow.Author.Rules.{rules}
use Rattle.rules.specs.State.{State, verdict_lent, verdict_shaped}
use Rattle.rules.specs.Verdict as S
use Rattle.call_verdict.proofs.Effects.{not_a_verdict, not_an_id, is_stopped, judged, fits}
use Rattle.call_verdict.proofs.judge_verdict.Goals as goal
use Rattle.call_verdict.proofs.judge_verdict.Goals.{Start, then-good-gt1-via-then-good-gt1, then-good-gt1-via-else-good-gt1+then-id-gt-LAST_ID}

-- the verdict that is lent
abbrev verdict : Start → S.Verdict
verdict c =
    record { good = c.args.good; id = c.args.id; message = c.args.message.now; signature = c.args.signature.now }

-- the state with the lent regions
abbrev lent : Start → State → State
lent c s =
    verdict_lent s c.args.config.now c.args.pubkeys.now c.args.offer.now c.args.chain.now c.args.numbers.now c.args.heldkey.now c.args.waiting.now c.args.arrivals.now

-- every lent length is right
long : (c : Start) (s : State) → (verdict_shaped (lent c s) && (eqb (length c.args.message.now) 45 && eqb (length c.args.signature.now) 132)) ≡ true
long c s =
    fits (lent c s) (verdict c)
    (((search rules, search rules), (search rules, search rules)), ((search rules, search rules), (search rules, (search rules, search rules))))
    (search rules)

pub returns-then-good-gt1 : goal.returns-then-good-gt1
returns-then-good-gt1 c =
    let start = (goal.at.returns-then-good-gt1 c).Start in
    λ s. elim c.then-good-gt1.branch [
      | then-good-gt1-via-then-good-gt1 w ↦ not_a_verdict (lent start s) (verdict start) (long start s) (omega arith)
      | then-good-gt1-via-else-good-gt1+then-id-gt-LAST_ID w ↦ not_an_id (lent start s) (verdict start) (long start s) (omega arith) (omega arith)
    ]

pub returns-then-stopped : goal.returns-then-stopped
returns-then-stopped c =
    λ s. is_stopped (lent (goal.at.returns-then-stopped c).Start s) (verdict (goal.at.returns-then-stopped c).Start) (long (goal.at.returns-then-stopped c).Start s) (omega arith) (omega arith) (rw (← c.stopped.ensures) c.if-stopped.true)

pub returns : goal.returns
returns c =
    λ s.
    let j = c.judge_named.ensures s in
    judged (lent (goal.at.returns c).Start s) (verdict (goal.at.returns c).Start) (long (goal.at.returns c).Start s) c.if-good-gt1.false c.if-id-gt-LAST_ID.false _ _ (rw (← c.stopped.ensures) c.if-stopped.false) j.0 j.1
