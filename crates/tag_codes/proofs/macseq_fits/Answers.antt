-- `tag_codes::macseq_fits` meets its contract: the message is that of the section, whatever its status.
use mathlib.Core.Path.{ap, ◌∙◌}
use mathlib.Core.List.{List}
use Prim.Native.Nat.{ℕ, ◌*◌}
use lib.Dec.{eqb}
use Rattle.rules.specs.Mack.{macseq_of}
use Rattle.rules.specs.Tags.{mac_bits}
use Rattle.tag_codes.proofs.Messages.{any_status}
use Rattle.tag_codes.proofs.macseq_fits.Goals as goal

pub returns : goal.returns
returns c k status e =
    let g = c.args in
    rw c.macseq_of.ensures
    (ap (λ (v : ℕ). eqb v (macseq_of g.c g.mack.now))
    (c.macseq_code.ensures k e
    ∙ ap (λ (l : List ℕ). mac_bits g.c.mf 12 k l)
    (c.macseq_message-n.ensures.0 ∙ any_status g.config.now g.c g.prn g.time g.mack.now status (g.c.nmack * g.c.fields))))
