-- `call_start_parts::marks_valid` meets its contract: `all` looks at each mark.
use mathlib.Core.Path.{◌∙◌}
use Rattle.std.proofs.Common.{rules, tests}
use Rattle.std.proofs.lemmas.Iterator.{YieldsList-from_slice}
use Rattle.std.proofs.lemmas.Iterator.Search.{all_from_yields_List}
use Rattle.rules.specs.Calls.{mark_valid}
use Rattle.call_start_parts.proofs.Cleared.{marks_all}
use Rattle.call_start_parts.proofs.marks_valid.Goals as goal

pub returns : goal.returns
returns c =
    all_from_yields_List mark_valid _ _ _ c.all.ensures.ran (YieldsList-from_slice c.args.marks.now cc) (λ x b q k. search (rules, tests))
    ∙ marks_all c.args.marks.now 28 c.requires
