-- `call_start_parts::clear_sets` meets its contract: both regions are zeros.
use mathlib.Core.Path.{◌≡◌}
use lib.ListN.{replicate}
use Rattle.std.proofs.Common.{rules}
use Rattle.rules.specs.State.{sets_length, arrivals_length}
use Rattle.call_start_parts.proofs.Cleared.{cleared}
use Rattle.call_start_parts.proofs.clear_sets.Goals as goal

pub returns : goal.returns
returns c =
    let s : c.fill.new.self ≡ replicate sets_length 0 = cleared _ _ sets_length (search rules) (c.fill.ensures.after (λ _ e. e)) in
    let t : c.fill-2.new.self ≡ replicate arrivals_length 0 = cleared _ _ arrivals_length (search rules) (c.fill-2.ensures.after (λ _ e. e)) in
    rw (s, t)
