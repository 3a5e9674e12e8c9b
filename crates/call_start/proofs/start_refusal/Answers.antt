-- `call_start::start_refusal` meets its contract: the checks in the rule's order.
use Rattle.rules.specs.Calls.{start_checks}
use Rattle.call_start.proofs.start_refusal.Goals as goal

pub returns-then-not-fits : goal.returns-then-not-fits
unfolding start_checks
returns-then-not-fits c = (λ s m root key e. rw (e, c.if-not-fits.true), tt)

pub returns-then-start_unfit : goal.returns-then-start_unfit
unfolding start_checks
returns-then-start_unfit c =
    (λ s m root key e. rw (e, c.if-not-fits.false, ← (c.start_unfit.ensures.0 m root key), c.if-start_unfit.true), tt)

pub returns : goal.returns
unfolding start_checks
returns c = (
  λ s m root key e. rw (e, c.if-not-fits.false, ← (c.start_unfit.ensures.0 m root key), c.if-start_unfit.false),
  (c.if-not-fits.false, c.start_unfit.ensures.1 c.if-start_unfit.false),
)
