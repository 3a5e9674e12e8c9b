-- `mack_half::judge_tags` meets its contract: the own tags' work comes behind that of the due ones.
use Prim.Native.Nat.{◌*◌, ◌≤◌}
use native.Mathlib.Omega.{arith}
use lib.ListN.{take}
use Rattle.rules.specs.Chain.{held}
use Rattle.rules.specs.Tags.{dues_judged}
use Rattle.mack_keys.proofs.Places.{keys_fit}
use Rattle.navdata.specs.Pieces.{nav}
use Rattle.section_tags.proofs.Joined.{both_leave}
use Rattle.tag_records.specs.Told.{start}
use Rattle.tags.specs.Layout.{section_of}
use borrow.Author.Rules.{rules}
use Rattle.mack_half.proofs.judge_tags.Goals as goal
use Rattle.mack_half.proofs.judge_tags.Goals.{After-judge_due-stay}

pub judge_due-stay-requires : goal.judge_due-stay-requires
judge_due-stay-requires c =
    ((c.requires.0.0.0, c.requires.0.1), c.requires.1.near_is)

few : (d : After-judge_due-stay) → d.judge_due-stay.result ≤ d.args.n
few d = d.judge_due-stay.ensures.1.few

pub overflow_sub-told : goal.overflow_sub-told
overflow_sub-told c = omega (arith, few (goal.at.overflow_sub-told c).After-judge_due-stay)

pub overflow_mul-fields : goal.overflow_mul-fields
overflow_mul-fields c = omega (arith, c.requires.0.0.1.few)

pub judge_own-kept-requires : goal.judge_own-kept-requires
judge_own-kept-requires c =
    let l = c.requires.0.0.1.few in
    ((c.requires.0.0.0.walks, (c.requires.0.0.1, keys_fit c.args.c c.requires.0.0.0)), ((c.requires.0.1.0, c.requires.1), (omega (arith, few (goal.at.judge_own-kept-requires c).After-judge_due-stay), omega (arith, few (goal.at.judge_own-kept-requires c).After-judge_due-stay, l))))

pub overflow_add-result : goal.overflow_add-result
overflow_add-result c =
    omega (arith, few (goal.at.overflow_add-result c).After-judge_due-stay, c.requires.0.0.1.few, c.requires.0.1.1)

pub returns : goal.returns
returns c =
    let g = c.args in
    let h = held g.slot (take g.c.width g.key) in
    let w = dues_judged g.c h g.waiting.now g.n (start 0 g.sets.now g.arrivals.now) in
    let r = both_leave g.config.now (nav g.words.now g.stamps.now) g.c h (section_of g.sent)
    g.waiting.now g.area.now
    c.judge_due-stay.new.waiting c.judge_due-stay.new.sets c.judge_due-stay.new.arrivals c.judge_due-stay.new.area
    _ _ _ _ g.sent.marks g.n (g.c.nmack * g.c.fields) c.judge_due-stay.result c.judge_own-kept.result w
    (search rules) (search rules) (omega (arith, few (goal.at.returns c).After-judge_due-stay, c.requires.0.0.1.few))
    c.judge_due-stay.ensures.0 c.judge_due-stay.ensures.1 c.judge_own-kept.ensures.0 c.judge_own-kept.ensures.1 in
    (r.0, (r.1.1, omega (arith, few (goal.at.returns c).After-judge_due-stay, c.requires.0.0.1.few, c.requires.0.1.1)))
