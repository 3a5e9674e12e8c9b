-- `sha256::bytes` meets its contract: the words are written one after the other.
use Rattle.std.proofs.Common.{◌≡◌, ◌+◌, ◌-◌, ◌*◌, length, get_or, refl, ◌∙◌, arith, rules}
use Rattle.sha256.specs.Sha256 as S
use Rattle.laws.proofs.Numbers.{length-be4}
use Rattle.laws.proofs.Splice.{lent, length_splice}
use Rattle.sha256.proofs.Written.{be4_is, one_word}
use Rattle.sha256.proofs.bytes.Goals as goal

pub loop-i-init : goal.loop-i-init
unfolding S.bytes
loop-i-init c = (refl, refl)

pub loop-i-preserved : goal.loop-i-preserved
loop-i-preserved c =
    let l = c.loop-i in
    let n : length c.args.h ≡ 8 = search rules in
    let e = c.copy_from_slice.ensures.after ∙ c.to_be_bytes.ensures ∙ be4_is _ in
    let k : 4 * l.i + 4 - 4 * l.i ≡ 4 = omega arith in
    let m = length-be4 (get_or c.args.h l.i 0) in
    (rw (e, k, lent l.d (4 * l.i) 4 _ (length-be4 _)) (length_splice l.d (4 * l.i) _ (omega (arith, m)) ∙ l.invariant.0), rw (e, k, lent l.d (4 * l.i) 4 _ (length-be4 _)) (one_word c.args.h l.d l.i (omega arith) (omega arith) l.invariant.1))
