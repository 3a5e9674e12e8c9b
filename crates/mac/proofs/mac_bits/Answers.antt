-- `mac::mac_bits` meets its contract: by MF; a message under a kept key has the code that it has under the key.
use mathlib.Core.Path.{◌≡◌, sym, ◌∙◌}
use native.Mathlib.Omega.{arith}
use Rattle.cmac.proofs.Kept as Cmac
use Rattle.hmac.proofs.Kept as Hmac
use Rattle.mac.proofs.Functions.{kept-cmac, kept-hmac, bits-cmac, bits-hmac}
use Rattle.mac.proofs.mac_bits.Goals as goal

pub returns-in-1 : goal.returns-in-1
returns-in-1 c k e =
    let g = c.args in
    let is = c.in-1.is in
    c.bits_at.ensures ∙ rw (c.cmac_with.ensures, e, kept-cmac g.mf k is, Cmac.kept k g.message.now) (sym (bits-cmac g.mf g.n k g.message.now is))

pub returns-in_default : goal.returns-in_default
returns-in_default c k e =
    let g = c.args in
    let not : (g.mf ≡ 1 → ⊥) = λ z. omega arith in
    let key = c.hmac_key_in.ensures k (e ∙ kept-hmac g.mf k not) in
    c.bits_at-in_default.ensures ∙ rw (c.hmac_with.ensures, key, Hmac.kept k g.message.now) (sym (bits-hmac g.mf g.n k g.message.now not))
