-- `gather::same_block` meets its contract: what is lent of both are the parts.
use Rattle.rules.specs.Gather as Rule
use native.Mathlib.Nat.{add-sub_cancel_left}
use Rattle.laws.specs.Lists.{part}
use Rattle.gather.proofs.same_block.Goals as goal

pub returns : goal.returns
unfolding Rule.block_of part
returns c = rw (c.equal.ensures, add-sub_cancel_left)
