-- What stands behind an authentic set, as the claim has it: its forty bits, and the section that brought its last tag.
use Prim.Native.Nat.{ℕ, ◌-◌}
use mathlib.Core.Path.{◌≡◌, refl}
use mathlib.Core.Logic.{◌≢◌}
use mathlib.Core.Bool.{Bool, true}
use mathlib.Core.List.{List}
use Rattle.rules.specs.Calls.{Start, Subframe, auth_stamp, auth_set}
use Rattle.rules.specs.Candidates.{pair_at}
use Rattle.rules.specs.Claim.{Arrived, Agreed, Counted, FortyBits, SetBacked}
use Rattle.rules.specs.Log.{Log, Once, here, earlier}
use Rattle.rules.specs.State.{State, prn_valid}
use Rattle.rules.specs.Tags.{own_tag}
use Rattle.rules.specs.Verdict.{Verdict}
use Rattle.rules.specs.declared.Tag.{Tag}
use Rattle.rules.proofs.Agreements.{Forty}
use Rattle.rules.proofs.Invariant.{Inv, AgreedIn, SectionOf}

-- forty bits, as the claim has them
pub forty_bits : (A : ℕ → Counted → Type 0) (time : ℕ) → Forty A time → FortyBits A
forty_bits A time f = record { tags = f.tags; turn = f.turn; each = f.rests.each; distinct = f.rests.distinct; enough = f.enough }

backed_by : (o : Start) (b : State) (l : Log) (prn time : ℕ) (navdata : List ℕ) → Forty (AgreedIn o b l prn navdata) time → SetBacked o b prn time navdata l
unfolding forty_bits
backed_by o b l prn time navdata f =
    record {
      forty = forty_bits (AgreedIn o b l prn navdata) time f;
      latest = f.rests.latest;
      last = f.rests.last;
      last_turn = f.rests.last_turn;
      came = f.rests.came;
      last_agreed = f.rests.agreed;
    }

pub set_stands : (o : Start) (b s : State) (l : Log) → Inv o b s l → (prn : ℕ) → prn_valid prn ≡ true → auth_stamp s.auth prn ≢ 0 → SetBacked o b prn (auth_stamp s.auth prn - 1) (auth_set s.auth prn) l
unfolding auth_stamp auth_set pair_at
set_stands o b s l v prn heard z = backed_by o b l prn _ _ ((v.auth.backed prn heard).set z)

-- ---- the section that brought a tag

-- a section answered 0 came at this time
pub record Brought (time : ℕ) (l : Log) : Type 0 where
  pub sub : Subframe
  pub came : Once (SectionOf sub) l
  pub time_is : time ≡ sub.time

arrived_brought : {o : Start} {by : Verdict} {turn : ℕ} {t : Tag} {first : Bool} {navdata : List ℕ} {l : Log} → Once (Arrived o by turn t first navdata) l → Brought t.time l
unfolding own_tag
arrived_brought (here a) = record { sub = a.sub; came = here a.section_is; time_is = rw a.tag_is refl }
arrived_brought (earlier p) = let r = arrived_brought p in record { sub = r.sub; came = earlier r.came; time_is = r.time_is }

pub agreed_brought : {o : Start} {b : State} {prn : ℕ} {navdata : List ℕ} {turn : ℕ} {c : Counted} {l : Log} → Once (Agreed o b prn navdata turn c) l → Brought c.tag.time l
agreed_brought (here a) = arrived_brought a.four.arrived
agreed_brought (earlier p) = let r = agreed_brought p in record { sub = r.sub; came = earlier r.came; time_is = r.time_is }
