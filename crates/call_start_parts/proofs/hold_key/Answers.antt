-- `call_start_parts::hold_key` meets its contract: all places are cleared, then the key takes its own.
use mathlib.Core.Path.{◌≡◌}
use native.Mathlib.Omega.{arith}
use lib.ListN.{replicate}
use Rattle.std.proofs.Common.{rules}
use Rattle.rules.proofs.Bounds.{key-length_bound}
use Rattle.call_start_parts.proofs.Cleared.{cleared, key-held}
use Rattle.rules.specs.State.{pubkeys_length}
use Rattle.call_start_parts.proofs.hold_key.Goals as goal

pub slice_bounds-add_key-end : goal.slice_bounds-add_key-end
slice_bounds-add_key-end c =
    omega (arith, c.key_length-n.ensures, key-length_bound c.args.kind)

pub returns : goal.returns
returns c =
    let n = c.key_length-n in
    let z : c.fill.new.self ≡ replicate pubkeys_length 0 = cleared _ _ pubkeys_length (search rules) (c.fill.ensures.after (λ _ e. e)) in
    key-held c.fill.new.self c.add_key.new.pubkeys c.args.pubkey.now c.args.id c.args.kind n.result z n.ensures c.add_key.ensures
