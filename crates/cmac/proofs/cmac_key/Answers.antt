-- `cmac::cmac_key` meets its contract: the round keys, and what comes after them.
use mathlib.Core.Path.{◌≡◌, sym, ap, ◌∙◌}
use lib.ListN.{length, length-append, length-drop}
use lib.Seq.{length-take-le}
use Rattle.aes.proofs.Keys.{length-expanded}
use Rattle.aes.proofs.Lengths.{rounds_range}
use Rattle.cmac.proofs.Kept.{kept_parts}
use native.Mathlib.Omega.{arith}
use Rattle.cmac.proofs.cmac_key.Goals as goal

pub slice_bounds-expand_key-end-2 : goal.slice_bounds-expand_key-end-2
slice_bounds-expand_key-end-2 c = sym (length-take-le 240 c.args.kept.now (omega arith))

pub expand_key-requires : goal.expand_key-requires
expand_key-requires c = length-take-le 240 c.args.kept.now (omega arith)

pub put_subkeys-requires : goal.put_subkeys-requires
put_subkeys-requires c =
    let g = c.args in
    let w = c.expand_key in
    let n = rounds_range (length g.key.now) in
    let e = c.rounds_of.ensures in
    let l : length w.new.w ≡ 240 = ap length w.ensures ∙ length-expanded _ in
    ((omega arith, omega arith), simp (length-append, length-drop) (omega arith))

pub returns : goal.returns
returns c =
    let g = c.args in
    kept_parts g.kept.now g.key.now _ _ _ (omega arith) c.expand_key.ensures c.rounds_of.ensures c.put_subkeys.ensures
