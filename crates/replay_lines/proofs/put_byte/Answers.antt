-- Two stores are one splice.
use Rattle.std.proofs.Common.{refl, ap, ◌∙◌}
use Rattle.laws.specs.Lists.{splice}
use Rattle.laws.proofs.Splice.{splice_two}
use Rattle.replay_lines.proofs.put_byte.Goals as goal

pub returns : goal.returns
returns c = splice_two _ _ _ _ c.requires ∙ ap (splice _ _) (rw (c.digit.ensures, c.digit-2.ensures) refl)
