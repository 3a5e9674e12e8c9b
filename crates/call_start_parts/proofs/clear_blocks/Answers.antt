-- `call_start_parts::clear_blocks` meets its contract: the regions are zeros.
use mathlib.Core.Path.{◌≡◌}
use lib.ListN.{replicate}
use Rattle.std.proofs.Common.{rules}
use Rattle.rules.specs.State.{blocks_length, dsm_ids}
use Rattle.call_start_parts.proofs.Cleared.{cleared}
use Rattle.call_start_parts.proofs.clear_blocks.Goals as goal

pub returns : goal.returns
returns c =
    let b : c.fill.new.self ≡ replicate blocks_length 0 = cleared _ _ blocks_length (search rules) (c.fill.ensures.after (λ _ e. e)) in
    let h : c.fill-2.new.self ≡ replicate dsm_ids 0 = cleared _ _ dsm_ids (search rules) (c.fill-2.ensures.after (λ _ e. e)) in
    let m : c.fill-3.new.self ≡ replicate dsm_ids 0 = cleared _ _ dsm_ids (search rules) (c.fill-3.ensures.after (λ _ e. e)) in
    let t : c.fill-4.new.self ≡ replicate dsm_ids 0 = cleared _ _ dsm_ids (search rules) (c.fill-4.ensures.after (λ _ e. e)) in
    rw (b, h, m, t)
