-- `test_leaves::of_chain::longest_key` meets its contract: by HF.
use borrow.Author.Tests.{eq-eqb, ne_eqb, lt-ltb, le-ltb}
use Rattle.rules.specs.Chain.{hash_bytes}
use Rattle.test_leaves.specs.Walk.{longest_key}
use Rattle.test_leaves.proofs.of_chain.longest_key.Goals as goal

pub returns-then-hf-gt2 : goal.returns-then-hf-gt2
unfolding longest_key
returns-then-hf-gt2 c = rw (lt-ltb _ _ c.if-hf-gt2.true)

pub returns-then-hf-eq1 : goal.returns-then-hf-eq1
unfolding longest_key hash_bytes
returns-then-hf-eq1 c = rw (le-ltb _ _ c.if-hf-gt2.false, eq-eqb _ _ c.if-hf-eq1.true)

pub returns : goal.returns
unfolding longest_key hash_bytes
returns c = rw (le-ltb _ _ c.if-hf-gt2.false, ne_eqb _ _ c.if-hf-eq1.false)
