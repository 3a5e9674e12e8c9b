-- `call_verdict::vouch` meets its contract: status 3, and any other.
use mathlib.Core.Path.{◌≡◌, sym, ap, ◌∙◌}
use mathlib.Core.List.{List}
use Prim.Native.Nat.{ℕ}
use borrow.Author.Rules.{rules}
use Rattle.laws.specs.Lists.{part}
use Rattle.rules.specs.Candidates.{candidates_cleared}
use Rattle.rules.specs.Verdict as S
use Rattle.authentic_sets.specs.Regions.{auth}
use Rattle.call_verdict.proofs.Effects.{dropped, renewed}
use Rattle.call_verdict.proofs.vouch.Goals as goal

pub returns-then-status_of-eq3 : goal.returns-then-status_of-eq3
unfolding S.message_header
returns-then-status_of-eq3 c =
    let g = c.args in
    λ s good signature m k e t a.
    dropped s (record { good = good; id = g.id; message = g.message.now; signature = signature }) _ _ _ k e t (auth s.auth.sets c.clear_candidates.new.arrivals) (sym c.status_of.ensures ∙ c.if-status_of-eq3.true)
    (c.clear_candidates.ensures s.auth.sets ∙ ap (λ (x : List ℕ). candidates_cleared (auth s.auth.sets x)) (sym a))

pub returns : goal.returns
unfolding S.message_header S.message_contents part
returns c =
    let g = c.args in
    let q : c.unwrap.result.now ≡ S.message_contents g.message.now = search rules in
    λ s good signature m k e t a.
    let r = rw q at c.renew.ensures s m e t a in
    renewed s (record { good = good; id = g.id; message = g.message.now; signature = signature }) _ _ _ k e t _ _ _ _ (λ x. c.if-status_of-eq3.false (c.status_of.ensures ∙ x)) c.drop_lower.ensures r.0.0 r.0.1 r.1
