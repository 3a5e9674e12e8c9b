-- Four satellites (02, P5): four among the first are four, reads of all satellites say the same, a wider limit is met where a narrower one is, and what a
-- count of four says of four satellites. Assumes nothing.
use Prim.Native.Nat.{ℕ, zero, suc, ◌+◌, ◌-◌, ◌≤◌, ◌<◌}
use mathlib.Core.Path.{◌≡◌, refl}
use mathlib.Core.Logic.{◌≢◌, ⊎_elim}
use mathlib.Core.Bool.{Bool, true, false, cond}
use mathlib.Core.List.{List}
use native.Mathlib.Nat.{le_refl}
use native.Mathlib.Omega.{arith}
use lib.Dec.{leb, eqb}
use lib.ListN.{get_or, replicate}
use borrow.Author.Tests.{le-leb, leb-true, eq-eqb, ne_eqb, eqb-true}
use Rattle.laws.specs.Refusal.{neb, first_refusal}
use Rattle.laws.proofs.Refusal.{none_fails}
use Rattle.laws.proofs.Splice.{either}
use Rattle.laws.proofs.Tests.{and_left, and_right, both_true}
use Rattle.rules.specs.Calls.{set_read, set_read_checks, auth_stamp}
use Rattle.rules.specs.Four.{age_at, recent, recent_count, four_met}
use Rattle.rules.specs.FourLaws.{read_recent, reads_recent}
use Rattle.rules.specs.State.{State, last_subframe, prn_valid, satellites, set_shaped, copy_length}

-- ---- the count

-- more satellites are no fewer
count_grows : (clock limit : ℕ) (arrivals : List ℕ) (n d m : ℕ) → m ≡ d + n → recent_count clock limit arrivals n ≤ recent_count clock limit arrivals m
unfolding recent_count
count_grows clock limit arrivals n zero m e = let z : m ≡ n = omega arith in rw z (le_refl (recent_count clock limit arrivals n))
count_grows clock limit arrivals n (suc d) m e =
    let z : m ≡ suc (d + n) = omega arith in
    let h = count_grows clock limit arrivals n d (d + n) refl in
    rw z (omega arith)

recent_wider : (clock limit more stamp : ℕ) → limit ≤ more → recent clock limit stamp ≡ true → recent clock more stamp ≡ true
unfolding recent
recent_wider clock limit more stamp h r =
    let age = age_at (clock - 1) (stamp - 1) in
    let a = and_left (neb stamp 0) (leb age limit) r in
    let b = leb-true age limit (and_right (neb stamp 0) (leb age limit) r) in
    both_true (neb stamp 0) (leb age more) a (le-leb age more (omega arith))

-- one test that holds where the other does adds no less
one_wider : (a b : Bool) → (a ≡ true → b ≡ true) → cond {A = ℕ} a 1 0 ≤ cond {A = ℕ} b 1 0
one_wider true b h = rw (h refl) (omega arith)
one_wider false b h = omega arith

count_wider : (clock limit more : ℕ) (arrivals : List ℕ) (n : ℕ) → limit ≤ more → recent_count clock limit arrivals n ≤ recent_count clock more arrivals n
unfolding recent_count
count_wider clock limit more arrivals zero h = omega arith
count_wider clock limit more arrivals (suc n) h =
    let a = count_wider clock limit more arrivals n h in
    let b = one_wider (recent clock limit (get_or arrivals n 0)) (recent clock more (get_or arrivals n 0)) (recent_wider clock limit more (get_or arrivals n 0) h) in
    omega arith

-- ---- the answer

pub soon : (s : State) (limit n : ℕ) → n ≤ satellites → last_subframe s.clocks ≢ 0 → 4 ≤ recent_count (last_subframe s.clocks) limit s.auth.arrivals n → four_met s limit ≡ true
unfolding four_met
soon s limit n k z h =
    let g = count_grows (last_subframe s.clocks) limit s.auth.arrivals n (satellites - n) satellites (omega arith) in
    rw (ne_eqb (last_subframe s.clocks) 0 z) (le-leb 4 (recent_count (last_subframe s.clocks) limit s.auth.arrivals satellites) (omega arith))

pub none : (s : State) (limit : ℕ) → last_subframe s.clocks ≡ 0 → four_met s limit ≡ false
unfolding four_met
none s limit e = rw (eq-eqb (last_subframe s.clocks) 0 e) refl

pub wider : (s : State) (limit more : ℕ) → limit ≤ more → four_met s limit ≡ true → four_met s more ≡ true
unfolding four_met
wider s limit more h m =
    let c = count_wider (last_subframe s.clocks) limit more s.auth.arrivals satellites h in
    let noted = neb (last_subframe s.clocks) 0 in
    let n = leb-true 4 (recent_count (last_subframe s.clocks) limit s.auth.arrivals satellites) (and_right noted _ m) in
    both_true noted _ (and_left noted _ m) (le-leb 4 (recent_count (last_subframe s.clocks) more s.auth.arrivals satellites) (omega arith))

-- ---- reads of all satellites

pub heard : (n : ℕ) → n < satellites → prn_valid (suc n) ≡ true
unfolding prn_valid
heard n h = both_true (leb 1 (suc n)) (leb (suc n) 36) (le-leb 1 (suc n) (omega arith)) (le-leb (suc n) 36 (omega arith))

-- no check refuses a read of a satellite that is heard and has a set
set_given : (s : State) (prn : ℕ) → set_shaped s ≡ true → prn_valid prn ≡ true → eqb (auth_stamp s.auth prn) 0 ≡ false → first_refusal (set_read_checks s prn (replicate copy_length 0)) ≡ 0
unfolding set_read_checks
set_given s prn shaped h z = none_fails (set_read_checks s prn (replicate copy_length 0)) (rw shaped refl, (rw h refl, (z, tt)))

read_recent_lem : (s : State) (limit prn stamp : ℕ) → set_shaped s ≡ true → prn_valid prn ≡ true → auth_stamp s.auth prn ≡ stamp → recent (last_subframe s.clocks) limit stamp ≡ read_recent s limit prn
unfolding recent set_read set_read_checks
read_recent_lem s limit prn stamp shaped h is =
    ⊎_elim (λ e. none_read s limit prn stamp shaped h is (eqb-true stamp 0 e)) (λ e. rw (set_given s prn shaped h (rw is e), is, e) refl) (either (eqb stamp 0))
  where
    none_read : (s : State) (limit prn stamp : ℕ) → set_shaped s ≡ true → prn_valid prn ≡ true → auth_stamp s.auth prn ≡ stamp → stamp ≡ 0 → recent (last_subframe s.clocks) limit stamp ≡ read_recent s limit prn
    none_read s limit prn stamp shaped h is z = rw (shaped, h, is, z) refl

pub stamp_at : (s : State) (n : ℕ) → auth_stamp s.auth (suc n) ≡ get_or s.auth.arrivals n 0
unfolding auth_stamp
stamp_at s n = let e : suc n - 1 ≡ n = omega arith in rw e refl

reads_count : (s : State) (limit n : ℕ) → set_shaped s ≡ true → n ≤ satellites → recent_count (last_subframe s.clocks) limit s.auth.arrivals n ≡ reads_recent s limit n
unfolding recent_count
reads_count s limit zero shaped h = refl
reads_count s limit (suc n) shaped h = rw (reads_count s limit n shaped (omega arith), read_recent_lem s limit (suc n) (get_or s.auth.arrivals n 0) shaped (heard n (omega arith)) (stamp_at s n)) refl

pub by_reads : (s : State) (limit : ℕ) → set_shaped s ≡ true → recent_count (last_subframe s.clocks) limit s.auth.arrivals satellites ≡ reads_recent s limit satellites
by_reads s limit shaped = reads_count s limit satellites shaped (le_refl satellites)

-- ---- four satellites of a count of four

-- the last of those that count, and that one fewer count before it
pub record LastOf (clock limit : ℕ) (arrivals : List ℕ) (n k : ℕ) : Type 0 where
  pub at : ℕ
  pub below : at < n
  pub is_recent : recent clock limit (get_or arrivals at 0) ≡ true
  pub before : k ≤ recent_count clock limit arrivals at

pub last_of : (clock limit : ℕ) (arrivals : List ℕ) (n k : ℕ) → suc k ≤ recent_count clock limit arrivals n → LastOf clock limit arrivals n k
unfolding recent_count
last_of clock limit arrivals zero k h = absurd (omega (arith, h))
last_of clock limit arrivals (suc n) k h =
    ⊎_elim
    (λ e. (
    let g : suc k ≤ recent_count clock limit arrivals n + 1 = rw e at h in
    record { at = n; below = omega arith; is_recent = e; before = omega (arith, g) }
    ))
    (λ e. (
    let g : suc k ≤ recent_count clock limit arrivals n + 0 = rw e at h in
    let r = last_of clock limit arrivals n k (omega (arith, g)) in
    let b = r.below in
    record { at = r.at; below = omega arith; is_recent = r.is_recent; before = r.before }
    ))
    (either (recent clock limit (get_or arrivals n 0)))
