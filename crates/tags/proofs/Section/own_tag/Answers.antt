-- `tags::Section::own_tag` meets its contract: tag0 is the sender's, any other names its satellite and ADKD.
use mathlib.Core.Path.{refl}
use borrow.Author.Tests.{eq-eqb, ne_eqb}
use Rattle.rules.specs.Tags.{own_tag}
use Rattle.tags.proofs.Section.own_tag.Goals as goal

pub returns-then-j-eq0 : goal.returns-then-j-eq0
unfolding own_tag
returns-then-j-eq0 c = rw (c.read_field-field.ensures, eq-eqb c.args.j 0 c.if-j-eq0.true) refl

pub returns : goal.returns
unfolding own_tag
returns c = rw (c.read_field-field.ensures, ne_eqb c.args.j 0 c.if-j-eq0.false) refl
