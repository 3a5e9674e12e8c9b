-- `due_tag_keys::outcome_at` meets its contract: the tag is judged just where its slot is m.
use mathlib.Core.Path.{◌≡◌, sym, ap, ◌∙◌}
use Prim.Native.Nat.{ℕ}
use borrow.Author.Tests.{eq-eqb, ne_eqb}
use Rattle.mac.specs.Kept.{kept_of}
use Rattle.rules.specs.Chain.{key_of_slot}
use Rattle.due_tag_keys.proofs.outcome_at.Goals as goal

pub returns-then-entry_slot-m : goal.returns-then-entry_slot-m
returns-then-entry_slot-m c h e = rw (← c.entry_slot.ensures, ne_eqb _ _ c.if-entry_slot-m.true)

pub returns : goal.returns
returns c h e =
    let g = c.args in
    let q : c.entry_slot.result ≡ g.m = c.if-entry_slot-m.false in
    rw (← c.entry_slot.ensures, eq-eqb _ _ q) (c.judge_entry.ensures h (e ∙ ap (λ (c : ℕ). kept_of g.c.mf (key_of_slot g.c h c)) (sym q ∙ c.entry_slot.ensures)))
