-- Each exported call's contract is the event's rule; so a run of exported calls is a run of the claim. Assumes nothing.
use Prim.Native.Nat.{ℕ}
use mathlib.Core.Path.{◌≡◌, sym, ap, ◌∙◌}
use mathlib.Core.Bool.{Bool, true, false, cond}
use mathlib.Core.List.{List}
use native.Mathlib.Omega.{arith}
use borrow.Author.Tests.{eq-eqb}
use lib.Dec.{eqb}
use lib.ListN.{length}
use Rattle.valve_rules.specs.Claim.{Event, after, gate}
use Rattle.valve_rules.specs.Gate.{Shown, shown, Decided, decision, gate_length, begun, if_lent, decided, decide_call, free_valves, yes}
use Rattle.valve_rules.proofs.Run.{gate_claim}
use Rattle.assurance.specs.Run.{Clause}
use Rattle.valve_safety.specs.Exported.{Answer, Made, StartedLearnt, AnsweredLearnt, SubframeLearnt, DecideLearnt, StartedDid, AnsweredDid, SubframeDid, DecideDid, Clauses, written, Did, start_shown, answer_shown, subframe_shown, Began, Run, begins, goes_on, ClaimOf}
use Rattle.valve_safety.specs.Exported as E
use Rattle.valve_safety.proofs.Boundary.{GateSays}

-- ---- what the equations of the contracts say where 49 bytes are lent

module _ (g : List ℕ) (l : length g ≡ gate_length) where
  lent_gives : (h x : List ℕ) (n : ℕ) → shown n x ≡ if_lent g h → (n ≡ 0) × (x ≡ h)
  unfolding if_lent
  lent_gives h x n e =
      let f : shown n x ≡ shown 0 h = rw (eq-eqb (length g) gate_length l) at e in
      (ap (λ (s : Shown). s.code) f, ap (λ (s : Shown). s.gate) f)

  pub decide_gives : (a b : ℕ) (x : List ℕ) (n f : ℕ) → decision n x f ≡ decide_call g a b
      → (n ≡ 0) × ((x ≡ decided g (yes a) (yes b)) × (f ≡ free_valves x))
  unfolding decide_call
  decide_gives a b x n f e =
      let h = decided g (yes a) (yes b) in
      let d : decision n x f ≡ decision 0 h (free_valves h) = rw (eq-eqb (length g) gate_length l) at e in
      let p : x ≡ h = ap (λ (z : Decided). z.gate) d in
      (ap (λ (z : Decided). z.code) d, (p, ap (λ (z : Decided). z.free) d ∙ ap free_valves (sym p)))

-- ---- one lemma a call

-- a call that was made has what its contract says of all that it may be lent
made : (Args : Type 0) (Learnt : Clause Args)
    (lent : Args → List ℕ)
    (event : Args → Event)
    (left : Args → List ℕ)
    (told : ℕ → Args → Answer)
    (P : List ℕ → Event → Answer → List ℕ → Type 0)
    → ((args : Args) (r : ℕ) (last : Args) → Learnt args r last → P (lent args) (event args) (told r last) (left last))
    → (g : List ℕ) (e : Event) (a : Answer) (g' : List ℕ) → Made Args Learnt lent event left told g e a g' → P g e a g'
made Args Learnt lent event left told P h g e a g' d =
    rw (d.lent_is, d.event_is, d.told_is, d.left_is) at (h d.args d.result d.last d.learnt)

-- it is answered 0, and leaves what the event makes of the bytes
abbrev Gives : List ℕ → Event → Answer → List ℕ → Type 0
Gives g e a g' = length g ≡ gate_length → (a.code ≡ 0) × (g' ≡ after g e)

started_gives : (g : List ℕ) (e : Event) (a : Answer) (g' : List ℕ) → StartedDid StartedLearnt g e a g' → Gives g e a g'
started_gives = made _ _ _ _ _ _ Gives (λ args r last d l. lent_gives _ l _ _ _ d)

answered_gives : (g : List ℕ) (e : Event) (a : Answer) (g' : List ℕ) → AnsweredDid AnsweredLearnt g e a g' → Gives g e a g'
answered_gives = made _ _ _ _ _ _ Gives (λ args r last d l. lent_gives _ l _ _ _ d)

subframe_gives : (g : List ℕ) (e : Event) (a : Answer) (g' : List ℕ) → SubframeDid SubframeLearnt g e a g' → Gives g e a g'
subframe_gives = made _ _ _ _ _ _ Gives (λ args r last d l. lent_gives _ l _ _ _ d)

-- and of a decision the free valves
abbrev Frees : List ℕ → Event → Answer → List ℕ → Type 0
Frees g e a g' = length g ≡ gate_length → (a.code ≡ 0) × ((g' ≡ after g e) × (a.free ≡ free_valves g'))

decided_frees : (g : List ℕ) (e : Event) (a : Answer) (g' : List ℕ) → DecideDid DecideLearnt g e a g' → Frees g e a g'
decided_frees = made _ _ _ _ _ _ Frees (λ args r last d l. decide_gives _ l _ _ _ _ _ d)

did_gives : (g : List ℕ) (e : Event) (a : Answer) (g' : List ℕ) → Did written g e a g' → Gives g e a g'
did_gives g e a g' (start_shown d) l = started_gives g e a g' d l
did_gives g e a g' (answer_shown d) l = answered_gives g e a g' d l
did_gives g e a g' (subframe_shown d) l = subframe_gives g e a g' d l
did_gives g e a g' (E.decided d) l = let f = decided_frees g e a g' d l in (f.0, f.1.0)

-- a call by clauses that say more is a call by those that say less
made_by : (Args : Type 0) (P Q : Clause Args)
    (lent : Args → List ℕ)
    (event : Args → Event)
    (left : Args → List ℕ)
    (told : ℕ → Args → Answer)
    → ((args : Args) (r : ℕ) (last : Args) → P args r last → Q args r last)
    → (g : List ℕ) (e : Event) (a : Answer) (g' : List ℕ) → Made Args P lent event left told g e a g' → Made Args Q lent event left told g e a g'
made_by Args P Q lent event left told h g e a g' d =
    record { args = d.args; result = d.result; last = d.last; lent_is = d.lent_is; event_is = d.event_is; left_is = d.left_is; told_is = d.told_is; learnt = h d.args d.result d.last d.learnt }

module _ (k l : Clauses) (h : GateSays k l) where
  pub decide_by : (g : List ℕ) (e : Event) (a : Answer) (g' : List ℕ) → DecideDid k.decide g e a g' → DecideDid l.decide g e a g'
  decide_by = made_by _ _ _ _ _ _ _ h.decide

  pub did_by : (g : List ℕ) (e : Event) (a : Answer) (g' : List ℕ) → Did k g e a g' → Did l g e a g'
  did_by g e a g' (start_shown d) = start_shown (made_by _ _ _ _ _ _ _ h.started g e a g' d)
  did_by g e a g' (answer_shown d) = answer_shown (made_by _ _ _ _ _ _ _ h.answered g e a g' d)
  did_by g e a g' (subframe_shown d) = subframe_shown (made_by _ _ _ _ _ _ _ h.subframe g e a g' d)
  did_by g e a g' (E.decided d) = E.decided (decide_by g e a g' d)

  pub began_by : (g : List ℕ) → Began k g → Began l g
  began_by g d = record { args = d.args; last = d.last; learnt = h.begin d.args 0 d.last d.learnt; left_is = d.left_is }

-- ---- the run

-- a begin that is answered 0 was lent 49 bytes
begin_gives : (g x : List ℕ) → shown 0 x ≡ if_lent g begun → x ≡ begun
unfolding if_lent
begin_gives g x e = go (eqb (length g) gate_length) e
  where
    go : (t : Bool) → shown 0 x ≡ cond t (shown 0 begun) (shown 1 g) → x ≡ begun
    go true e = ap (λ (s : Shown). s.gate) e
    go false e = absurd (omega (arith, ap (λ (s : Shown). s.code) e))

module _ (k : Clauses) (h : GateSays k written) where
  pub gives : (g : List ℕ) (e : Event) (a : Answer) (g' : List ℕ) → Did k g e a g' → Gives g e a g'
  gives g e a g' d = did_gives g e a g' (did_by k written h g e a g' d)

  pub decide_frees : (g : List ℕ) (e : Event) (a : Answer) (g' : List ℕ) → DecideDid k.decide g e a g' → Frees g e a g'
  decide_frees g e a g' d = decided_frees g e a g' (decide_by k written h g e a g' d)

  pub began : (g : List ℕ) → Began k g → g ≡ begun
  began g d = sym d.left_is ∙ begin_gives _ _ (h.begin d.args 0 d.last d.learnt)

  pub bytes_are : (es : List Event) (g : List ℕ) → Run k es g → g ≡ gate es
  bytes_are es g (begins d) = began g d
  bytes_are es g' (goes_on {es = os} {g = g} {e = e} {a = a} r d) =
      let p = bytes_are os g r in
      (gives g e a g' d (ap length p ∙ gate_claim.length_kept os)).1 ∙ ap (λ (u : List ℕ). after u e) p

  long : (es : List Event) (g : List ℕ) → Run k es g → length g ≡ gate_length
  long es g r = ap length (bytes_are es g r) ∙ gate_claim.length_kept es

  pub claim_of : ClaimOf k
  claim_of =
      record {
        claim = gate_claim;
        bytes = bytes_are;
        answers = λ es g g' e a r d. (gives g e a g' d (long es g r)).0;
        frees = λ es g g' e a r d. (
            let f = decide_frees g e a g' d (long es g r) in
            f.1.1 ∙ ap free_valves (f.1.0 ∙ ap (λ (u : List ℕ). after u e) (bytes_are es g r))
            );
      }
