-- `hmac::key_block` meets its contract, for a long key and a short one.
use borrow.Author.Tests.{lt-ltb, le-ltb}
use Rattle.hmac.specs.Hmac as Spec
use Rattle.hmac.proofs.key_block.Goals as goal

pub returns-then-k-gt64 : goal.returns-then-k-gt64
unfolding Spec.key_block
returns-then-k-gt64 c = rw (lt-ltb _ _ c.if-k-gt64.true) (cc)

pub returns-else-k-gt64 : goal.returns-else-k-gt64
unfolding Spec.key_block
returns-else-k-gt64 c = rw (le-ltb _ _ c.if-k-gt64.false) c.zero_padded-else-k-gt64.ensures
