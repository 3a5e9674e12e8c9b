-- `call_reads::read_progress` meets its contract: after `id` turns the first 2 id bytes are the pairs of so many DSM IDs.
use mathlib.Core.Path.{◌≡◌, refl, sym, ◌∙◌, ap}
use borrow.Rule.Slice.PartMut.{same_len_mid}
use lib.Seq.{take_all}
use Rattle.std.proofs.Common.{arith, rules}
use Rattle.rules.specs.Progress.{pair_of, pairs_of}
use Rattle.call_reads.proofs.Pairs.{pairs_more}
use Rattle.call_reads.proofs.read_progress.Goals as goal

pub loop-id-init : goal.loop-id-init
unfolding pairs_of
loop-id-init c = (search rules, λ s. refl)

pub loop-id-preserved : goal.loop-id-preserved
loop-id-preserved c =
    let l = c.loop-id in (
      same_len_mid _ _ l.out _ c.copy_from_slice.auto.self ∙ l.invariant.0,
      λ s. pairs_more _ l.out l.id _ _ (omega (arith, l.invariant.0)) (c.copy_from_slice.ensures.after ∙ c.pair_of-pair.ensures ∙ ap pair_of (c.progress_of.ensures s)) (l.invariant.1 s),
    )

pub returns : goal.returns
returns c =
    let l = c.loop-id in
    let e : l.id ≡ 16 = omega arith in
    λ s. sym (take_all 32 l.out (omega (arith, l.invariant.0))) ∙ rw e at (l.invariant.1 s)
