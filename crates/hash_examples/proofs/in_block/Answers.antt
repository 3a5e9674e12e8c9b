-- `hash_examples::in_block` is safe: of 32 bytes the first 28 are 28.
use Rattle.std.proofs.Common.{◌≡◌, length, sym, arith, rules}
use lib.Seq.{length-take-le}
use Rattle.hash_examples.proofs.in_block.Goals as goal

pub slice_bounds-short-end : goal.slice_bounds-short-end
slice_bounds-short-end g c =
    let n : length c.one_block-d.result ≡ 32 = search rules in
    sym (length-take-le 28 c.one_block-d.result (omega arith))
