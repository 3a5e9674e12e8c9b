-- `aes::word_at` meets its contract.
use mathlib.Core.Path.{ap, ◌∙◌}
use Prim.Native.Nat.{ℕ, ◌<◌}
use borrow.Author.Rules.{rules}
use lib.ListN.{get_or}
use Rattle.laws.specs.Bytes.{be4}
use Rattle.aes.proofs.States.{word_is}
use Rattle.aes.proofs.word_at.Goals as goal

pub returns : goal.returns
returns c =
    let byte : (i : ℕ) → get_or c.args.w.now i 0 < 256 = λ i. search (rules, c.type_inv.w i) in
    ap be4 c.get_u32.ensures ∙ word_is c.args.w.now c.args.at c.requires byte
