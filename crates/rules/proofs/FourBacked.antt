-- What stands behind a yes to the question for four satellites (02, P5): four authentic sets, whose tags came within the limit.
use Prim.Native.Nat.{ℕ, zero, suc, ◌+◌, ◌-◌, ◌*◌, ◌%◌, ◌^◌, ◌≤◌, ◌<◌}
use mathlib.Core.Path.{◌≡◌, refl, sym, ◌∙◌, ap}
use mathlib.Core.Logic.{◌≢◌}
use mathlib.Core.Bool.{Bool, true, false, cond}
use mathlib.Core.Option.{Option, none, some}
use native.Mathlib.Omega.{arith}
use lib.Dec.{leb, eqb}
use lib.ListN.{get_or}
use borrow.Author.Tests.{leb-true, eqb-true, eqb-false, not-true}
use Rattle.laws.specs.Refusal.{first_refusal, neb, unless}
use Rattle.laws.proofs.Tests.{and_left, and_right}
use Rattle.rules.specs.Calls.{Start, FourRead, four_read, four_read_checks, auth_stamp, auth_set}
use Rattle.rules.specs.Claim.{RecentlyBacked, FourBacked}
use Rattle.rules.specs.Four.{age_at, recent, recent_count, four_met}
use Rattle.rules.specs.Log.{Log, last_noted}
use Rattle.rules.specs.State.{State, last_subframe, prn_valid, satellites}
use Rattle.rules.specs.Times.{time_valid, seconds_of, week_of, second_of, stamp_of, subframe_at}
use Rattle.rules.proofs.Four.{last_of, heard, stamp_at}
use Rattle.rules.proofs.Invariant.{Inv, ClockIs, stamp_noted}
use Rattle.rules.proofs.SetsBacked.{set_stands, agreed_brought}

-- ---- times and ages

-- a time that is not later has no more seconds
in_order : (time last : ℕ) → time_valid time ≡ true → time ≤ last → seconds_of time ≤ seconds_of last
unfolding time_valid seconds_of second_of week_of
in_order time last v h =
    let a = leb-true (time % 2 ^ 20) 604770 (and_left (leb (time % 2 ^ 20) 604770) _ v) in
    omega arith

-- between two starts of sub-frames there are whole sub-frames
whole : (time : ℕ) → time_valid time ≡ true → seconds_of time % 30 ≡ 0
unfolding time_valid seconds_of second_of week_of
whole time v =
    let b = eqb-true (time % 2 ^ 20 % 30) 0 (and_left (eqb (time % 2 ^ 20 % 30) 0) _ (and_right (leb (time % 2 ^ 20) 604770) _ v)) in
    omega arith

age_within : (last time limit : ℕ) → time_valid last ≡ true → time_valid time ≡ true → seconds_of time ≤ seconds_of last → age_at last time ≤ limit → seconds_of last ≤ seconds_of time + 30 * limit
unfolding age_at subframe_at
age_within last time limit vl vt h a =
    let x = whole last vl in
    let y = whole time vt in
    omega arith

-- ---- the clock

noted_some : (o : Option ℕ) → stamp_noted o ≢ 0 → (t : ℕ) × (o ≡ some t)
noted_some none z = absurd (z refl)
noted_some (some t) z = (t, refl)

-- an authentic set's tag came in a section answered 0, not later than the clock
pub past : (o : Start) (b s : State) (l : Log) → Inv o b s l → ClockIs s.clocks l → (prn : ℕ) → prn_valid prn ≡ true → auth_stamp s.auth prn ≢ 0
    → (time_valid (auth_stamp s.auth prn - 1) ≡ true) × (auth_stamp s.auth prn ≤ last_subframe s.clocks)
unfolding stamp_of
past o b s l v k prn h z =
    let w = set_stands o b s l v prn h z in
    let r = agreed_brought w.last_agreed in
    let q = k.sections r.sub r.came in
    let e : auth_stamp s.auth prn - 1 ≡ r.sub.time = sym w.came ∙ r.time_is in
    let g = q.1 in
    (rw e q.0, omega arith)

-- ---- one satellite of the count

module _ (o : Start) (b s : State) (l : Log) (v : Inv o b s l) (k : ClockIs s.clocks l) (limit last : ℕ) (last_is : last_noted l ≡ some last) where
  abbrev clock : ℕ
  clock = last_subframe s.clocks

  clock_is : clock ≡ stamp_of last
  clock_is = k.last ∙ ap stamp_noted last_is

  recently : (at : ℕ) → at < satellites → recent clock limit (get_or s.auth.arrivals at 0) ≡ true → RecentlyBacked o b last limit l (suc at)
  unfolding recent stamp_of
  recently at h r0 =
      let stamp = auth_stamp s.auth (suc at) in
      let r : recent clock limit stamp ≡ true = rw (stamp_at s at) r0 in
      let z = eqb-false stamp 0 (not-true (eqb stamp 0) (and_left (neb stamp 0) _ r)) in
      let p = past o b s l v k (suc at) (heard at h) z in
      let e : clock - 1 ≡ last = (let c = clock_is in omega arith) in
      let a : age_at last (stamp - 1) ≤ limit = rw e at (leb-true (age_at (clock - 1) (stamp - 1)) limit (and_right (neb stamp 0) _ r)) in
      let g = p.1 in
      let c = clock_is in
      let order = in_order (stamp - 1) last p.0 (omega arith) in
      record {
        heard = heard at h;
        time = stamp - 1;
        navdata = auth_set s.auth (suc at);
        time_is = rw (← v.at) (omega arith);
        navdata_is = rw (← v.at) refl;
        backed = set_stands o b s l v (suc at) (heard at h) z;
        not_later = order;
        within = age_within last (stamp - 1) limit (k.last_valid last last_is) p.0 order a;
      }

  -- ---- four of them

  four_of : 4 ≤ recent_count clock limit s.auth.arrivals satellites → FourBacked o b limit l
  four_of h =
      let d = last_of clock limit s.auth.arrivals satellites 3 h in
      let c = last_of clock limit s.auth.arrivals d.at 2 d.before in
      let m = last_of clock limit s.auth.arrivals c.at 1 c.before in
      let a = last_of clock limit s.auth.arrivals m.at 0 m.before in
      let hd = d.below in
      let hc = c.below in
      let hm = m.below in
      let ha = a.below in
      record {
        last = last;
        last_is = last_is;
        first = suc a.at;
        second = suc m.at;
        third = suc c.at;
        fourth = suc d.at;
        apart = (omega arith, (omega arith, omega arith));
        first_is = recently a.at (omega arith) a.is_recent;
        second_is = recently m.at (omega arith) m.is_recent;
        third_is = recently c.at (omega arith) c.is_recent;
        fourth_is = recently d.at (omega arith) d.is_recent;
      }

-- ---- the question

-- a yes is given only where the count is four
yes_met : (s : State) (limit : ℕ) → (four_read s limit).yes ≢ 0 → four_met s limit ≡ true
unfolding four_read
yes_met s limit = go (first_refusal (four_read_checks s)) (four_met s limit)
  where
    res : ℕ → Bool → FourRead
    res n m = unless n (record { code = 0; yes = cond m 1 0 }) (record { code = n; yes = 0 })

    go : (n : ℕ) (m : Bool) → (res n m).yes ≢ 0 → m ≡ true
    go zero true e = refl
    go zero false e = absurd (e refl)
    go (suc n) m e = absurd (e refl)

pub four_backed : (o : Start) (b s : State) (l : Log) → Inv o b s l → ClockIs s.clocks l → (limit : ℕ) → (four_read s limit).yes ≢ 0 → FourBacked o b limit l
unfolding four_met
four_backed o b s l v k limit said =
    let m = yes_met s limit said in
    let clock = last_subframe s.clocks in
    let count = recent_count clock limit s.auth.arrivals satellites in
    let z = eqb-false clock 0 (not-true (eqb clock 0) (and_left (neb clock 0) (leb 4 count) m)) in
    let t = noted_some (last_noted l) (λ e. z (k.last ∙ e)) in
    four_of o b s l v k limit t.0 t.1 (leb-true 4 count (and_right (neb clock 0) (leb 4 count) m))
