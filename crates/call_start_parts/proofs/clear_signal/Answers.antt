-- `call_start_parts::clear_signal` meets its contract: the regions are zeros.
use mathlib.Core.Path.{◌≡◌}
use lib.ListN.{replicate}
use Rattle.std.proofs.Common.{rules}
use Rattle.rules.specs.State.{clocks_length, words_length, stamps_length}
use Rattle.call_start_parts.proofs.Cleared.{cleared}
use Rattle.call_start_parts.proofs.clear_signal.Goals as goal

pub returns : goal.returns
returns c =
    let k : c.fill.new.self ≡ replicate clocks_length 0 = cleared _ _ clocks_length (search rules) (c.fill.ensures.after (λ _ e. e)) in
    let w : c.fill-2.new.self ≡ replicate words_length 0 = cleared _ _ words_length (search rules) (c.fill-2.ensures.after (λ _ e. e)) in
    let t : c.fill-3.new.self ≡ replicate stamps_length 0 = cleared _ _ stamps_length (search rules) (c.fill-3.ensures.after (λ _ e. e)) in
    (k, rw (w, t))
