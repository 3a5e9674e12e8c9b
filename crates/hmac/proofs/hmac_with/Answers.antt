-- `hmac::hmac_with` meets its contract: what is hashed after each pad is one part.
use mathlib.Core.Path.{◌≡◌, ◌∙◌}
use mathlib.Core.List.{List, [], ◌++◌, append-nil}
use Prim.Native.Nat.{ℕ}
use Rattle.sha256.specs.Sha256.{finished}
use Rattle.hmac.specs.Hmac as Spec
use Rattle.hmac.proofs.hmac_with.Goals as goal

both : (i o m d r : List ℕ) → d ≡ finished i 1 (m ++ []) → r ≡ finished o 1 (d ++ []) → r ≡ finished o 1 (finished i 1 m)
both i o m d r p q = q ∙ rw (append-nil d, p, append-nil m)

pub returns : goal.returns
unfolding Spec.hmac_with
returns c = both _ _ _ _ _ c.finish-d.ensures c.finish.ensures
