-- `pkr::size_bad` meets its contract: each return is the case of the type.
use mathlib.Core.Path.{sym, ◌∙◌}
use Prim.Native.Nat.{◌+◌}
use native.Mathlib.Omega.{arith}
use lib.ListN.{length}
use borrow.Author.Tests.{lt-ltb, le-ltb}
use Rattle.kroot.proofs.Parameters.{least_bound}
use Rattle.rules.proofs.Bounds.{key-length_bound}
use Rattle.pkr.proofs.Pkr.{bad_emergency, bad_other}
use Rattle.pkr.proofs.size_bad.Goals as goal

pub returns-then-d-lt-EMERGENCY_LENGTH : goal.returns-then-d-lt-EMERGENCY_LENGTH
returns-then-d-lt-EMERGENCY_LENGTH c =
    let d = c.args.d.now in
    let h = lt-ltb (length d) 143 c.if-d-lt-EMERGENCY_LENGTH.true in
    let e = bad_emergency d (sym c.new_type-kind.ensures ∙ c.if-kind-eq4.true) in
    rw h (rw h at e)

pub returns-else-d-lt-EMERGENCY_LENGTH : goal.returns-else-d-lt-EMERGENCY_LENGTH
returns-else-d-lt-EMERGENCY_LENGTH c =
    let d = c.args.d.now in
    let e = bad_emergency d (sym c.new_type-kind.ensures ∙ c.if-kind-eq4.true) in
    rw c.new_id.ensures (rw (le-ltb (length d) 143 c.if-d-lt-EMERGENCY_LENGTH.false) at e)

pub overflow_add-key_length : goal.overflow_add-key_length
overflow_add-key_length c = omega (arith, c.key_length.ensures, key-length_bound c.new_type-kind.result)

pub least_blocks-requires : goal.least_blocks-requires
least_blocks-requires c = omega (arith, c.key_length.ensures, key-length_bound c.new_type-kind.result)

pub overflow_mul-result : goal.overflow_mul-result
overflow_mul-result c =
    omega (arith, c.key_length.ensures, key-length_bound c.new_type-kind.result, c.least_blocks.ensures, least_bound (130 + c.key_length.result))

pub returns-then-kind-gt4 : goal.returns-then-kind-gt4
returns-then-kind-gt4 c =
    let n = c.new_type-kind.ensures in
    let h = lt-ltb 4 c.new_type-kind.result c.if-kind-gt4.true in
    let e = bad_other c.args.d.now (λ e. c.if-kind-eq4.false (n ∙ e)) in
    rw h (rw (← n, h) at e)

pub returns-else-kind-gt4 : goal.returns-else-kind-gt4
returns-else-kind-gt4 c =
    let n = c.new_type-kind.ensures in
    let e = bad_other c.args.d.now (λ e. c.if-kind-eq4.false (n ∙ e)) in
    rw (c.least_blocks.ensures, c.key_length.ensures) (rw (← n, le-ltb 4 c.new_type-kind.result c.if-kind-gt4.false) at e)
