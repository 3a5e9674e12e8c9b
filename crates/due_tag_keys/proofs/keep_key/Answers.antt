-- `due_tag_keys::keep_key` meets its contract: what is lent are the first bytes.
use mathlib.Core.Path.{ap, ◌∙◌}
use Prim.Native.Nat.{ℕ}
use native.Mathlib.Nat.{sub-zero}
use lib.ListN.{take}
use Rattle.mac.specs.Kept.{kept_of}
use Rattle.due_tag_keys.proofs.keep_key.Goals as goal

pub returns : goal.returns
returns c =
    let g = c.args in
    c.keep.ensures ∙ ap (λ (i : ℕ). kept_of g.mf (take i g.key.now)) (sub-zero g.width)
