-- `public_keys::same_key` meets its contract: each test is a part of the definition.
use Prim.Native.Nat.{◌+◌, ◌*◌}
use mathlib.Core.Path.{sym, ◌∙◌}
use mathlib.Core.Bool.{false≢true}
use borrow.Author.Tests.{eqb-true, eqb-false}
use Rattle.laws.proofs.Splice.{range_part}
use Rattle.public_keys.proofs.Keys.{same-key-not, same-key_other, same-key-bytes}
use Rattle.rules.specs.PublicKeys as S
use Rattle.public_keys.proofs.same_key.Goals as goal
use Rattle.public_keys.proofs.same_key.Goals.{then-key_held, else-key_held}

pub returns-then-key_type-kind : goal.returns-then-key_type-kind
unfolding S.key_bytes
returns-then-key_type-kind c =
    let g = c.args in
    elim c.if-key_held.branch [
      | then-key_held w ↦
          c.equal.ensures
          ∙ rw (range_part g.pubkeys.now (g.id * 68 + 1) 67, c.filled_key.ensures)
          (same-key-bytes g.pubkeys.now g.id g.kind g.key.now (sym c.key_held.ensures ∙ w.if-key_held.true) (sym w.key_type.ensures ∙ eqb-true _ _ (sym w.value-is ∙ c.if-key_type-kind.true)))
      | else-key_held w ↦ absurd (false≢true (sym w.if-key_held.false ∙ sym w.value-is ∙ c.if-key_type-kind.true))
    ]

pub returns-else-key_type-kind : goal.returns-else-key_type-kind
returns-else-key_type-kind c =
    let g = c.args in
    elim c.if-key_held.branch [
      | then-key_held w ↦
          c.if-key_type-kind.false
          ∙ sym (same-key_other g.pubkeys.now g.id g.kind g.key.now (sym c.key_held.ensures ∙ w.if-key_held.true) (λ e. eqb-false _ _ (sym w.value-is ∙ c.if-key_type-kind.false) (w.key_type.ensures ∙ e)))
      | else-key_held w ↦ w.value-is ∙ w.if-key_held.false ∙ sym (same-key-not g.pubkeys.now g.id g.kind g.key.now (sym c.key_held.ensures ∙ w.if-key_held.false))
    ]
