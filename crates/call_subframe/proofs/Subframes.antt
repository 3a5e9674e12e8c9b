-- The sub-frame call by its cases: refused in both halves, zero bytes alone, an emergency message, or both halves done.
-- Assumes nothing.
use mathlib.Core.Path.{◌≡◌, refl}
use mathlib.Core.Bool.{false, ◌&&◌}
use mathlib.Core.List.{List}
use Prim.Native.Nat.{ℕ, ◌*◌, ◌/◌}
use native.Mathlib.Omega.{arith}
use lib.Dec.{eqb}
use lib.ListN.{length, set}
use Rattle.std.specs.Prelude.{Result, Ok}
use Rattle.laws.specs.Lists.{splice}
use Rattle.laws.specs.Refusal.{first_refusal}
use Rattle.rules.specs.Calls.{Subframe, SubframeTold, MackDone, subframe_checks, noted, fields_of, hkroot_received, mack_half, halves_done, subframe_call}
use Rattle.rules.specs.Gather.{hkroot_of, mack_of, header_of}
use Rattle.rules.specs.Refusals.{refusal_number, answer_number}
use Rattle.rules.specs.declared.Refusal.{Refusal}
use Rattle.rules.specs.declared.Refusal.TheVariants.{WrongLength, OutOfRange, OutOfOrder, Stopped, AllZero, BlockUnfit, KeyNotHeld, ParametersUnfit, NotNewer, TreeUnfit, NotInForce, KeyUnfit, TooFar, NotWaiting, VerdictBad, NoSet, FieldsMissing}
use Rattle.rules.specs.State.{State, shaped, with_clocks, area_length}
use Rattle.rules.specs.Times.{stamp_of}
use Rattle.hkroot_half.specs.Done.{done, stops}
use Rattle.hkroot_half.specs.declared.Half.{Half}
use Rattle.hkroot_half.specs.declared.Half.TheVariants.{Stops}
use Rattle.mack_half.specs.Half.{Gives}
use Rattle.regions.specs.Told.{subframe_told}

module _ (s : State) (area : List ℕ) (x : Subframe) where
  abbrev code : ℕ
  code = first_refusal (subframe_checks s area x)

  -- a refusal for another reason than zeros leaves all as before
  pub refused : (r : Refusal) → (r ≡ AllZero → ⊥) → refusal_number r ≡ code → subframe_told (refusal_number r) (refusal_number r) 0 s area ≡ subframe_call s area x
  unfolding subframe_call
  refused WrongLength f e = rw (← e)
  refused OutOfRange f e = rw (← e)
  refused OutOfOrder f e = rw (← e)
  refused Stopped f e = rw (← e)
  refused AllZero f e = absurd (f refl)
  refused BlockUnfit f e = rw (← e)
  refused KeyNotHeld f e = rw (← e)
  refused ParametersUnfit f e = rw (← e)
  refused NotNewer f e = rw (← e)
  refused TreeUnfit f e = rw (← e)
  refused NotInForce f e = rw (← e)
  refused KeyUnfit f e = rw (← e)
  refused TooFar f e = rw (← e)
  refused NotWaiting f e = rw (← e)
  refused VerdictBad f e = rw (← e)
  refused NoSet f e = rw (← e)
  refused FieldsMissing f e = rw (← e)

  -- zeros alone note the time
  pub zero-bytes : (k : List ℕ) → 5 ≡ code → k ≡ set (set s.clocks 0 (stamp_of x.time)) x.prn (stamp_of x.time) → subframe_told 5 5 0 (with_clocks s k) area ≡ subframe_call s area x
  unfolding subframe_call noted
  zero-bytes k e q = rw (← e, q)

  -- both halves are done in the state whose time is noted
  pub accepted : (t : SubframeTold) (k : List ℕ) → 0 ≡ code → k ≡ set (set s.clocks 0 (stamp_of x.time)) x.prn (stamp_of x.time) → t ≡ halves_done (with_clocks s k) area x → t ≡ subframe_call s area x
  unfolding subframe_call noted
  accepted t k e q h = rw (← e) (rw q at h)

  -- ---- both halves

  -- a proved emergency message
  pub ends : (h : Result Half Refusal) (s' : State) → done h s' ≡ hkroot_received s x.time x.marks (hkroot_of (fields_of x) 15) → h ≡ Ok Stops → subframe_told 0 4 0 s' area ≡ halves_done s area x
  unfolding halves_done
  ends h s' e f = rw (← e, f)

  times_twelve : (n k : ℕ) → n ≡ k * 12 → k ≡ n / 12
  times_twelve n k e = omega arith

  pub goes_on : (h : Result Half Refusal) (k : ℕ) (s' s'' : State) (n count header : ℕ) (mack area' : List ℕ) → done h s' ≡ hkroot_received s x.time x.marks (hkroot_of (fields_of x) 15)
      → (k ≡ answer_number h) × (stops h ≡ false)
      → header ≡ header_of (hkroot_of (fields_of x) 15) → mack ≡ mack_of (fields_of x) 15 → Gives (mack_half s' x.prn x.time x.marks header mack) n count s'' area area'
      → subframe_told k n count s'' area' ≡ halves_done s area x
  unfolding halves_done
  goes_on h k s' s'' n count header mack area' e f eh em g =
      let m = mack_half s' x.prn x.time x.marks (header_of (hkroot_of (fields_of x) 15)) (mack_of (fields_of x) 15) in
      rw (← e, f.1, f.0) (told_by (answer_number h) m n count s'' area' (rw (eh, em) at g))
    where
      told_by : (c : ℕ) (m : MackDone) (n count : ℕ) (s'' : State) (area' : List ℕ) → Gives m n count s'' area area'
          → subframe_told c n count s'' area' ≡ record { hkroot = c; mack = m.code; count = length m.records / 12; state = m.state; area = splice area 0 m.records }
      told_by c m n count s'' area' g = rw (g.code_is, g.state_is, g.area_is, ← (times_twelve (length m.records) count g.count_is))

-- a wrong length
pub unshaped : (s : State) (area : List ℕ) (x : Subframe) → (shaped s && (eqb (length area) area_length && eqb (length x.bytes) 75)) ≡ false → subframe_told 1 1 0 s area ≡ subframe_call s area x
unfolding subframe_checks
unshaped s area x e = refused s area x WrongLength (λ z. cc) (rw e)
