-- `call_verdict::judge_named` meets its contract: 14, another refusal, and none.
use mathlib.Core.Path.{refl, sym, ◌∙◌}
use Rattle.std.proofs.lemmas.Result.{err_from_is_err_and}
use Rattle.rules.specs.State.{State, verdict_lent}
use Rattle.rules.specs.Verdict as S
use Rattle.call_verdict.proofs.Effects.{none_waits, another, kept, wait_ended, taken}
use Rattle.call_verdict.proofs.judge_named.Goals as goal
use Rattle.call_verdict.proofs.judge_named.Goals.{Start}

-- the verdict that is lent
abbrev verdict : Start → S.Verdict
verdict c =
    record { good = c.args.good; id = c.args.id; message = c.args.message.now; signature = c.args.signature.now }

-- the state with the lent regions
abbrev lent : Start → State → State
lent c s =
    verdict_lent s c.args.config.now c.args.pubkeys.now c.args.offer.now c.args.chain.now c.args.numbers.now c.args.heldkey.now c.args.waiting.now c.args.arrivals.now

pub returns-then-eq : goal.returns-then-eq
returns-then-eq c =
    let start = (goal.at.returns-then-eq c).Start in
    λ s. let e = c.vouch_refusal-judged.ensures (lent start s) refl refl refl in
    let n = none_waits c.vouch_refusal-judged.result (sym c.if-eq.ensures) in
    (e, rw n (kept (lent start s) (verdict start)))

pub returns-in_err-judged : goal.returns-in_err-judged
returns-in_err-judged c =
    let start = (goal.at.returns-in_err-judged c).Start in
    let p = err_from_is_err_and c.from_residual.result c.from_residual.ensures.1 in
    λ s.
    let e = rw c.in_err-judged.was at c.vouch_refusal-judged.ensures (lent start s) refl refl refl in
    let n = another c.in_err-judged.field-0.0 (sym (rw c.in_err-judged.was at c.if-eq.ensures)) in
    rw (p.1, p.2) (e, rw c.end_wait.ensures (wait_ended (lent start s) (verdict start) _ n.0 n.1))

pub returns : goal.returns
returns c =
    let start = (goal.at.returns c).Start in
    λ s. (
      rw c.in_ok-judged.was at c.vouch_refusal-judged.ensures (lent start s) refl refl refl,
      rw c.end_wait.ensures (c.vouch.ensures (lent start s) c.args.good c.args.signature.now refl refl refl refl refl ∙ taken (lent start s) (verdict start)),
    )
