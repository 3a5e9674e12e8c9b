-- Row 1 of each call: a lent length is wrong; and what right lengths say. Assumes nothing.
use mathlib.Core.Path.{◌≡◌}
use mathlib.Core.Bool.{Bool, true, false, cond, ◌&&◌}
use mathlib.Core.List.{List}
use Prim.Native.Nat.{ℕ}
use lib.Dec.{eqb}
use lib.ListN.{length}
use borrow.Author.Tests.{eqb-true}
use Rattle.laws.proofs.Tests.{and_left, and_right}
use Rattle.call_reads.specs.Reads.{set_told, offer_told, four_told, progress_told}
use Rattle.regions.specs.Told.{told}
use Rattle.rules.specs.Calls.{Word, word_call, word_checks, verdict_call, verdict_checks, set_read, set_read_checks, offer_read, offer_read_checks, four_read, four_read_checks, progress_read, progress_read_checks}
use Rattle.rules.specs.Four.{four_met}
use Rattle.rules.specs.Progress.{pairs_of}
use Rattle.rules.specs.State.{State, word_shaped, verdict_shaped, set_shaped, offer_shaped, four_shaped, progress_shaped, dsm_ids}
use Rattle.rules.specs.Verdict.{Verdict}

-- ---- right lengths: of a test b of the regions, and of one, two or three lists that are lent beside them

pub long_one : (b : Bool) (a : List ℕ) (m : ℕ) → (b && eqb (length a) m) ≡ true → (b ≡ true) × (length a ≡ m)
long_one b a m e = (and_left b (eqb (length a) m) e, eqb-true (length a) m (and_right b (eqb (length a) m) e))

pub long_two : (b : Bool) (a c : List ℕ) (m n : ℕ) → (b && (eqb (length a) m && eqb (length c) n)) ≡ true → (b ≡ true) × ((length a ≡ m) × (length c ≡ n))
long_two b a c m n e =
    let f = long_one (eqb (length a) m) c n (and_right b (eqb (length a) m && eqb (length c) n) e) in
    (and_left b (eqb (length a) m && eqb (length c) n) e, (eqb-true (length a) m f.0, f.1))

pub long_three : (b : Bool) (a c d : List ℕ) (m n o : ℕ) → (b && (eqb (length a) m && (eqb (length c) n && eqb (length d) o))) ≡ true
    → (b ≡ true) × ((length a ≡ m) × ((length c ≡ n) × (length d ≡ o)))
long_three b a c d m n o e =
    let r = eqb (length a) m && (eqb (length c) n && eqb (length d) o) in
    let f = long_two (eqb (length a) m) c d n o (and_right b r e) in
    (and_left b r e, (eqb-true (length a) m f.0, f.1))

-- ---- a wrong length

module _ (s : State) where
  pub word_misfit : (w : Word) → (word_shaped s && eqb (length w.bytes) 16) ≡ false → told 1 s ≡ word_call s w
  unfolding word_call word_checks
  word_misfit w e = rw e

  pub verdict_misfit : (v : Verdict) → (verdict_shaped s && (eqb (length v.message) 45 && eqb (length v.signature) 132)) ≡ false → told 1 s ≡ verdict_call s v
  unfolding verdict_call verdict_checks
  verdict_misfit v e = rw e

  pub set_misfit : (prn : ℕ) (out : List ℕ) → (set_shaped s && eqb (length out) 69) ≡ false → set_told 1 out 0 0 ≡ set_read s prn out
  unfolding set_read set_read_checks
  set_misfit prn out e = rw e

  pub message_misfit : (message signature key : List ℕ) → (offer_shaped s && (eqb (length message) 45 && (eqb (length signature) 132 && eqb (length key) 67))) ≡ false
      → offer_told 1 message signature key 0 0 ≡ offer_read s message signature key
  unfolding offer_read offer_read_checks
  message_misfit message signature key e = rw e

  pub four_misfit : (limit : ℕ) → four_shaped s ≡ false → four_told 1 0 ≡ four_read s limit
  unfolding four_read four_read_checks
  four_misfit limit e = rw e

  -- and right ones: the answer is the rule's
  pub four_told_lem : (limit said : ℕ) (met : Bool) → four_shaped s ≡ true → met ≡ four_met s limit → said ≡ cond met 1 0 → four_told 0 said ≡ four_read s limit
  unfolding four_read four_read_checks
  four_told_lem limit said met e m y = rw (e, ← m, y)

  pub progress_misfit : (out : List ℕ) → (progress_shaped s && eqb (length out) 32) ≡ false → progress_told 1 out ≡ progress_read s out
  unfolding progress_read progress_read_checks
  progress_misfit out e = rw e

  pub progress_told_lem : (out told : List ℕ) → (progress_shaped s && eqb (length out) 32) ≡ true → told ≡ pairs_of s.store dsm_ids → progress_told 0 told ≡ progress_read s out
  unfolding progress_read progress_read_checks
  progress_told_lem out told e is = rw (e, is)
