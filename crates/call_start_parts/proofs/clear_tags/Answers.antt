-- `call_start_parts::clear_tags` meets its contract: the regions are zeros.
use mathlib.Core.Path.{◌≡◌}
use lib.ListN.{replicate}
use Rattle.laws.proofs.Splice.{two_set}
use Rattle.std.proofs.Common.{rules}
use Rattle.rules.specs.State.{heldkey_length, waiting_length}
use Rattle.call_start_parts.proofs.Cleared.{cleared}
use Rattle.call_start_parts.proofs.clear_tags.Goals as goal

pub returns : goal.returns
returns c =
    let k : c.fill.new.self ≡ replicate heldkey_length 0 = cleared _ _ heldkey_length (search rules) (c.fill.ensures.after (λ _ e. e)) in
    let w : c.fill-2.new.self ≡ replicate waiting_length 0 = cleared _ _ waiting_length (search rules) (c.fill-2.ensures.after (λ _ e. e)) in
    rw (two_set c.args.numbers.now 0 0 (search rules), k, w)
