-- `aes::words_of` meets its contract, branch by branch.
use native.Mathlib.Omega.{arith}
use borrow.Author.Tests.{lt-ltb, le-ltb}
use Rattle.aes.specs.Aes as S
use Rattle.aes.proofs.words_of.Goals as goal

pub returns-in-0-to-23 : goal.returns-in-0-to-23
unfolding S.nk_of
returns-in-0-to-23 c = (simp (lt-ltb c.args.n 24 (omega arith)), (omega arith, omega arith))

pub returns-in-24-to-31 : goal.returns-in-24-to-31
unfolding S.nk_of
returns-in-24-to-31 c = (simp (le-ltb c.args.n 24 (omega arith), lt-ltb c.args.n 32 (omega arith)), (omega arith, omega arith))

pub returns-in_default : goal.returns-in_default
unfolding S.nk_of
returns-in_default c = (simp (le-ltb c.args.n 24 (omega arith), le-ltb c.args.n 32 (omega arith)), (omega arith, omega arith))
