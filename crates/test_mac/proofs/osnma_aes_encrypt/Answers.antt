-- `test_mac::osnma_aes_encrypt` meets its contract: the refusals, and the result.
use mathlib.Core.Path.{sym, ◌∙◌}
use lib.ListN.{length}
use borrow.Author.Tests.{eq-eqb, ne_eqb}
use native.Mathlib.Omega.{arith}
use Rattle.test_mac.specs.Calls.{encrypt_call}
use Rattle.aes.proofs.Lengths.{rounds_range}
use Rattle.test_mac.proofs.osnma_aes_encrypt.Goals as goal
use Rattle.test_mac.proofs.osnma_aes_encrypt.Goals.{then-no_key-via-then-no_key, then-no_key-via-else-no_key+then-w-ne240, then-no_key-via-else-no_key+else-w-ne240+then-out-ne16}

pub returns-then-no_key : goal.returns-then-no_key
unfolding encrypt_call
returns-then-no_key c =
    elim c.then-no_key.branch [
      | then-no_key-via-then-no_key w ↦ simp (sym c.no_key.ensures ∙ w.if-no_key.true)
      | then-no_key-via-else-no_key+then-w-ne240 w ↦ simp (sym c.no_key.ensures ∙ w.if-no_key.false, ne_eqb (length c.args.w.now) 240 w.if-w-ne240.true)
      | then-no_key-via-else-no_key+else-w-ne240+then-out-ne16 w ↦
          simp (sym c.no_key.ensures ∙ w.if-no_key.false, eq-eqb (length c.args.w.now) 240 w.if-w-ne240.false, ne_eqb (length c.args.out.now) 16 w.if-out-ne16.true)
    ]

pub cipher-requires : goal.cipher-requires
cipher-requires c =
    let n = rounds_range c.args.n in
    let e = c.rounds_of.ensures in
    (omega arith, omega arith)

pub returns : goal.returns
unfolding encrypt_call
returns c =
    let r = c.copy_from_slice.ensures.after ∙ rw c.rounds_of.ensures at c.cipher.ensures in
    simp (sym c.no_key.ensures ∙ c.if-no_key.false, eq-eqb (length c.args.w.now) 240 c.if-w-ne240.false, eq-eqb (length c.args.out.now) 16 c.if-out-ne16.false, r)
