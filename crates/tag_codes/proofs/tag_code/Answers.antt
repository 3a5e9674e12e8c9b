-- `tag_codes::tag_code` meets its contract: tag0's message is the rest after PRN_N.
use mathlib.Core.Path.{ap, ◌∙◌}
use mathlib.Core.List.{List}
use Prim.Native.Nat.{ℕ}
use Rattle.rules.specs.Tags.{mac_bits}
use Rattle.tag_codes.proofs.Messages.{rest_of_message}
use Rattle.tag_codes.proofs.tag_code.Goals as goal

pub returns-then-first : goal.returns-then-first
returns-then-first c k t navdata e m =
    let g = c.args in
    rw c.if-first.true (c.mac_bits.ensures k e ∙ ap (λ (l : List ℕ). mac_bits g.mf g.ms k l) ((rest_of_message g.message.now t navdata m)))

pub returns-else-first : goal.returns-else-first
returns-else-first c k t navdata e m =
    let g = c.args in
    rw c.if-first.false (c.mac_bits-else-first.ensures k e ∙ ap (λ (l : List ℕ). mac_bits g.mf g.ms k l) m)
