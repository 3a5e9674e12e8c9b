use mathlib.Core.Path.{◌≡◌, ◌∙◌, ap}
use Prim.Native.Nat.{◌+◌, ◌*◌}
use lib.ListN.{length}
use native.Mathlib.Omega.{arith}
use borrow.Author.Rules.{rules}
use Rattle.rules.specs.PublicKeys as S
use Rattle.rules.proofs.Parts.{length-filled}
use Rattle.laws.proofs.Splice.{splice_cons}
use Rattle.public_keys.proofs.add_key.Goals as goal
use Rattle.public_keys.proofs.add_key.Goals.{After-filled_key-whole}

-- the key's bytes, filled, are 67
long : (c : After-filled_key-whole) → length c.filled_key-whole.result ≡ 67
long c = ap length c.filled_key-whole.ensures ∙ length-filled 67 _ (search rules)

pub returns : goal.returns
unfolding S.with_key
returns c =
    let g = c.args in
    c.copy_at.ensures
    ∙ splice_cons g.pubkeys.now (g.id * 68) (g.kind + 1) c.filled_key-whole.result (omega (arith, long (goal.at.returns c).After-filled_key-whole))
    ∙ rw c.filled_key-whole.ensures
