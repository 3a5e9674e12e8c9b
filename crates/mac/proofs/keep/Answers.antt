-- `mac::keep` meets its contract: by MF.
use mathlib.Core.Path.{sym, ◌∙◌}
use native.Mathlib.Omega.{arith}
use Rattle.mac.proofs.Functions.{kept-cmac, kept-hmac}
use Rattle.mac.proofs.keep.Goals as goal

pub returns-in-1 : goal.returns-in-1
returns-in-1 c =
    let g = c.args in
    c.cmac_key.ensures ∙ sym (kept-cmac g.mf g.key.now c.in-1.is)

pub returns-in_default : goal.returns-in_default
returns-in_default c =
    let g = c.args in
    c.put_hmac.ensures ∙ rw c.hmac_key.ensures (sym (kept-hmac g.mf g.key.now (λ z. omega arith)))
