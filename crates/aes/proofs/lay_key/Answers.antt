-- `aes::lay_key` meets its contract.
use mathlib.Core.Path.{◌≡◌, refl, ap, ◌∙◌}
use native.Mathlib.Omega.{arith}
use borrow.Author.Rules.{rules}
use lib.ListN.{length, replicate, take, length-take}
use lib.Seq.{length-take-le}
use Rattle.laws.specs.Lists.{splice}
use Rattle.aes.proofs.Lengths.{nk_range}
use Rattle.aes.proofs.Keys.{laid}
use Rattle.aes.proofs.lay_key.Goals as goal

pub overflow_mul-nk : goal.overflow_mul-nk
overflow_mul-nk c =
    let r = nk_range (length c.args.key.now) in
    omega arith

pub copy_at-requires : goal.copy_at-requires
copy_at-requires c =
    let r = nk_range (length c.args.key.now) in
    let l = c.fill.ensures.len in
    simp length-take (omega arith)

pub returns : goal.returns
unfolding splice
returns c =
    let z : c.fill.new.self ≡ replicate 240 0 = c.fill.ensures.after (λ y h. search (rules, h)) ∙ ap (λ n. replicate n 0) c.requires.1 in
    let e : length (take c.min-n.result c.args.key.now) ≡ c.min-n.result = length-take-le c.min-n.result c.args.key.now (omega arith) in
    c.copy_at.ensures ∙ rw e (laid c.args.key.now (take c.min-n.result c.args.key.now) c.fill.new.self c.args.nk c.min-n.result c.requires.0 c.min-n.ensures refl z)
