-- `call_start_parts::set_config` meets its contract: the parts stand one after the other and fill the region.
use Rattle.std.proofs.Common.{rules}
use Rattle.call_start_parts.proofs.Cleared.{config-set}
use Rattle.call_start_parts.proofs.set_config.Goals as goal

pub returns : goal.returns
returns c =
    let a = c.copy_at in
    let b = c.copy_at-2 in
    config-set c.args.config.now a.new.dst b.new.dst c.args.ns c.args.maclt c.args.marks.now c.args.root.now (search rules) (search rules) (search rules) a.ensures b.ensures
