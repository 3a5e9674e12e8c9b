-- `pkr::pkr_judge` meets its contract: each return is the case of its checks.
use mathlib.Core.Path.{◌≡◌, sym, ◌∙◌}
use mathlib.Core.Bool.{true, false}
use borrow.Author.Rules.{rules}
use Rattle.std.proofs.lemmas.Result.{err_from_is_err_and}
use Rattle.rules.specs.Pkr as S
use Rattle.pkr.proofs.Pkr.{key_size, size_refused, tree_refused, stopped, renewed}
use Rattle.pkr.proofs.pkr_judge.Goals as goal
use Rattle.pkr.proofs.pkr_judge.Goals.{Else-not-tree_proved, Else-size_bad}

fits : (c : Else-size_bad) → S.pkr_size_bad c.args.d.now ≡ false
fits c = sym c.size_bad.ensures ∙ c.if-size_bad.false

proved : (c : Else-not-tree_proved)
    → S.tree_proved c.args.root.now c.args.d.now ≡ true
proved c = sym c.tree_proved.ensures ∙ c.if-not-tree_proved.false

pub returns-then-size_bad : goal.returns-then-size_bad
returns-then-size_bad c = size_refused _ _ _ (sym c.size_bad.ensures ∙ c.if-size_bad.true)

pub tree_proved-requires : goal.tree_proved-requires
tree_proved-requires c = (fits (goal.at.tree_proved-requires c).Else-size_bad, search rules)

pub returns-then-not-tree_proved : goal.returns-then-not-tree_proved
returns-then-not-tree_proved c = tree_refused _ _ _ (fits (goal.at.returns-then-not-tree_proved c).Else-size_bad) (sym c.tree_proved.ensures ∙ c.if-not-tree_proved.true)

pub returns-then-new_type-eq4 : goal.returns-then-new_type-eq4
returns-then-new_type-eq4 c =
    stopped _ _ _ (fits (goal.at.returns-then-new_type-eq4 c).Else-size_bad) (proved (goal.at.returns-then-new_type-eq4 c).Else-not-tree_proved) (sym c.new_type.ensures ∙ c.if-new_type-eq4.true)

pub renew-requires : goal.renew-requires
renew-requires c =
    key_size _ (fits (goal.at.renew-requires c).Else-size_bad) (λ e. c.if-new_type-eq4.false (c.new_type.ensures ∙ e))

pub returns-in_err-renew : goal.returns-in_err-renew
returns-in_err-renew c =
    let p = err_from_is_err_and c.from_residual.result c.from_residual.ensures.1 in
    rw (p.1, p.2)
    (renewed _ _ _ (fits (goal.at.returns-in_err-renew c).Else-size_bad) (proved (goal.at.returns-in_err-renew c).Else-not-tree_proved) (λ e. c.if-new_type-eq4.false (c.new_type.ensures ∙ e)) _ _ c.in_err-renew.ensures)

pub returns : goal.returns
returns c =
    renewed _ _ _ (fits (goal.at.returns c).Else-size_bad) (proved (goal.at.returns c).Else-not-tree_proved) (λ e. c.if-new_type-eq4.false (c.new_type.ensures ∙ e)) _ _ c.in_ok-renew.ensures
