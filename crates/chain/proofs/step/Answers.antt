-- `chain::step` meets its contract: the framed block with the time is the padded message of the step.
use mathlib.Core.Path.{◌≡◌}
use borrow.Author.Rules.{rules}
use lib.ListN.{length}
use Rattle.chain.proofs.Steps.{step_is}
use Rattle.chain.proofs.step.Goals as goal

pub returns : goal.returns
returns g c =
    let a : length c.args.c.alpha ≡ 6 = search rules in
    let n : length c.args.b.now ≡ 64 = search rules in
    step_is c.args.c c.requires.0.0.width_fits a _ (g.H.StepHash.block c.args.hash) c.requires.0.1 c.args.m _ c.args.b.now _ _ _ n c.requires.1.1
    c.slot_time.ensures c.put_u32.ensures c.digest-d.ensures c.copy_part.ensures
