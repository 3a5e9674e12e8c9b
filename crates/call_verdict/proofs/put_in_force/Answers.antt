-- `call_verdict::put_in_force` meets its contract: 1, and the contents after it.
use mathlib.Core.Path.{◌∙◌}
use native.Mathlib.Omega.{arith}
use lib.ListN.{length-set}
use Rattle.rules.specs.Verdict as S
use Rattle.call_verdict.proofs.Regions.{put}
use Rattle.call_verdict.proofs.put_in_force.Goals as goal

pub copy_at-requires : goal.copy_at-requires
copy_at-requires c = simp length-set (omega arith)

pub returns : goal.returns
unfolding S.forced
returns c =
    let g = c.args in
    c.copy_at.ensures ∙ put g.chain.now g.c.now (omega arith) (omega arith)
