-- Core and gate in one run: the gate's mark of a stop is the core's, and a freed valve has its four satellites. Assumes nothing.
use mathlib.Core.Path.{◌≡◌, refl, sym, ap, ◌∙◌}
use mathlib.Core.Logic.{◌≢◌}
use mathlib.Core.Bool.{Bool, true, false, cond, not, ◌&&◌, ◌||◌}
use mathlib.Core.List.{List, [], ◌∷◌, ◌++◌}
use Prim.Native.Nat.{ℕ, ◌/◌, ◌%◌, ◌^◌, ◌<◌}
use native.Mathlib.Omega.{arith}
use lib.Dec.{eqb}
use lib.ListN.{length}
use borrow.Author.Tests.{not-true}
use Rattle.laws.specs.Refusal.{unless}
use Rattle.laws.proofs.Tests.{true_false, and_left, and_right}
use Rattle.assurance.specs.Run as C
use Rattle.assurance.proofs.Exported as A
use Rattle.rules.specs.Calls.{Start, start_call, word_call, subframe_call, verdict_call, FourRead, four_read, four_read_checks}
use Rattle.rules.specs.Claim.{FourBacked, FairHistory}
use Rattle.rules.specs.Four.{four_met}
use Rattle.rules.specs.Log.{Call, start, word, subframe, verdict, ask, four, Reply, plain, Stepped, History, advanced, Ran, ran, ran_from, step, asked}
use Rattle.rules.specs.State.{State, stopped, four_shaped}
use Rattle.rules.proofs.Sound.{claim, four_satellites}
use Rattle.valve_gate.specs.Asked.{decide_asked}
use Rattle.valve_rules.specs.Claim.{Event, decide, after, gate, mets_of}
use Rattle.valve_rules.specs.Claim as G
use Rattle.valve_rules.specs.Gate.{decision, decide_call, gate_length, begun, outer, own_met, limit_of, stop_seen, valve_at, free_valves, yes}
use Rattle.valve_rules.specs.Valve.{Valve, free, closed2, closed1, closed, is_free}
use Rattle.valve_rules.proofs.Run.{gate_claim, stop_is}
use Rattle.valve_safety.specs.Exported.{Answer, Did}
use Rattle.valve_safety.specs.Safety.{Boom, shown_of, says_yes, Freed, Both, written, Shown, Says, answered, no, Decides, asking, told, Run, begins, called, decides, SafeOf}
use Rattle.valve_safety.specs.Safety as S
use Rattle.valve_safety.proofs.Boundary as B
use Rattle.valve_safety.proofs.GateFromContracts.{began, gives, decide_gives, decide_frees}
use Rattle.valve_safety.proofs.Shape.{Fits, fits_shaped, accepted_fits, step_fits}
use Rattle.valve_safety.proofs.Stops.{start-fresh, start_stop, word_stop, verdict_stop, subframe_stop}

-- ---- the question

four_code : (s : State) → Fits s → (limit : ℕ) → (four_read s limit).code ≡ 0
unfolding four_read four_read_checks
four_code s f limit = rw (fits_shaped s f) refl

four_yes : (s : State) → Fits s → (limit : ℕ) → four_met s limit ≡ true → (four_read s limit).yes ≡ 1
unfolding four_read four_read_checks
four_yes s f limit e = rw (fits_shaped s f, e) refl

four_is : (s : State) (limit : ℕ) → says_yes s limit ≡ true → four_met s limit ≡ true
unfolding yes four_read four_read_checks
four_is s limit e = go (four_shaped s) (four_met s limit) e
  where
    go : (a m : Bool) → eqb (unless {A = FourRead} (cond (not a) 1 0) (record { code = 0; yes = cond m 1 0 }) (record { code = cond (not a) 1 0; yes = 0 })).yes 1 ≡ true → m ≡ true
    go true true e = refl
    go true false e = true_false (sym e)
    go false m e = true_false (sym e)

-- ---- the core's calls, by its rules

one_more : (cs : List Call) (s : State) (h : History) (c : Call) → ran s h (cs ++ c ∷ [])
    ≡ (let r = ran s h cs in let z = step r.state c in record { state = z.state; history = advanced r.history c z.reply.code z.reply z.state })
unfolding ran
one_more [] s h c = refl
one_more (d ∷ cs) s h c = let z = step s d in one_more cs z.state (advanced h d z.reply.code z.reply z.state) c

-- core and history are those of a list of calls after an accepted start
record Since (core : State) (history : History) : Type 0 where
  origin : State
  given : Start
  accepted : (start_call origin given).code ≡ 0
  calls : List Call
  ran_is : ran_from origin given calls ≡ record { state = core; history = history }

since_more : (s : State) (h : History) (c : Call) (r : Reply) (s' : State) → Since s h → step s c ≡ record { reply = r; state = s' } → Since s' (advanced h c r.code r s')
unfolding ran_from
since_more s h c r s' v e =
    record {
      origin = v.origin;
      given = v.given;
      accepted = v.accepted;
      calls = v.calls ++ c ∷ [];
      ran_is =
          one_more v.calls _ _ c
          ∙ ap (λ (z : Ran). record { state = (step z.state c).state; history = advanced z.history c (step z.state c).reply.code (step z.state c).reply (step z.state c).state }) v.ran_is
          ∙ ap (λ (z : Stepped). record { state = z.state; history = advanced h c z.reply.code z.reply z.state }) e;
    }

-- what stands behind a yes: the question asked once more
backed : (s : State) (h : History) → Since s h → (limit : ℕ) → (four_read s limit).yes ≢ 0 → FourBacked h.origin h.began limit h.log
unfolding step asked
backed s h v limit n =
    let w = since_more s h (ask (four limit)) (step s (ask (four limit))).reply s v refl in
    let f : FairHistory (advanced h (ask (four limit)) (step s (ask (four limit))).reply.code (step s (ask (four limit))).reply s) =
    (rw (ap (λ (z : Ran). z.history) w.ran_is) at (claim.fair w.origin w.given w.accepted w.calls)) in
    f.0.fours limit refl n

-- ---- a stop shows in the numbers

stop_step : (s : State) (c : Call) (es : List Event) → G.stopped es ≡ stopped s.config
    → G.stopped (shown_of c (step s c).reply es) ≡ stopped (step s c).state.config
unfolding step
stop_step s (start x) es e = ap (λ (t : Bool). cond (eqb (start_call s x).code 0) false t) e ∙ sym (start_stop s x)
stop_step s (word w) es e = ap (λ (t : Bool). cond (eqb (word_call s w).code 4) true t) e ∙ sym (word_stop s w)
stop_step s (subframe area x) es e =
    let r = subframe_call s area x in
    ap (λ (t : Bool). cond (eqb r.hkroot 4 || eqb r.mack 4) true t) e ∙ sym (subframe_stop s area x)
stop_step s (verdict v) es e = ap (λ (t : Bool). cond (eqb (verdict_call s v).code 4) true t) e ∙ sym (verdict_stop s v)
stop_step s (ask q) es e = e

-- ---- what is known of a run

record Known (b : Boom) : Type 0 where
  bytes : b.gate ≡ gate b.events
  stop : G.stopped b.events ≡ stopped b.core.config
  fits : Fits b.core
  since : Since b.core b.history

long : (b : Boom) → Known b → length b.gate ≡ gate_length
long b v = ap length v.bytes ∙ gate_claim.length_kept b.events

module _ (cs : Both) (says : B.Says cs written) where
  -- the gate is shown a call's numbers
  one_shown : (b : Boom) → Known b → (e : Event) (a : Answer) (g : List ℕ) → Did cs.gate b.gate e a g → g ≡ gate (e ∷ b.events)
  one_shown b v e a g d = (gives cs.gate says.gate b.gate e a g d (long b v)).1 ∙ ap (λ (u : List ℕ). after u e) v.bytes

  shown-bytes : (b : Boom) → Known b → (c : Call) (r : Reply) (g : List ℕ) → Shown cs c r b.gate g → g ≡ gate (shown_of c r b.events)
  shown-bytes b v (start x) r g d = one_shown b v (G.started r.code) d.0 g d.1
  shown-bytes b v (word w) r g d = one_shown b v (G.answered r.code) d.0 g d.1
  shown-bytes b v (subframe area x) r g d = one_shown b v (G.subframe r.code r.mack) d.0 g d.1
  shown-bytes b v (verdict u) r g d = one_shown b v (G.answered r.code) d.0 g d.1
  shown-bytes b v (ask q) r g d = d ∙ v.bytes

  -- a decision, by what the core answers
  asked_gives : (g : List ℕ) → length g ≡ gate_length → (s : State) → Fits s → (x : List ℕ) (n f : ℕ) → decision n x f ≡ decide_asked g (four_read s 20) (four_read s 10)
      → (n ≡ 0) × ((x ≡ after g (decide (says_yes s 20) (says_yes s 10))) × (f ≡ free_valves x))
  unfolding decide_asked
  asked_gives g l s fits x n f e =
      let d : decision n x f ≡ decide_call g (four_read s 20).yes (four_read s 10).yes = rw (four_code s fits 20, four_code s fits 10) at e in
      decide_gives g l (four_read s 20).yes (four_read s 10).yes x n f d

  said : (s : State) (limit : ℕ) (r : Reply) → C.Did cs.core s (ask (four limit)) r s → (four_read s limit).yes ≡ r.yes
  unfolding step asked
  said s limit r d = ap (λ (z : Stepped). z.reply.yes) (A.steps cs.core says.core s s (ask (four limit)) r d)

  decides_gives : (b : Boom) → Known b → (e : Event) (a : Answer) (g : List ℕ) → Decides cs b a g e → (a.code ≡ 0) × ((g ≡ after b.gate e) × (a.free ≡ free_valves g))
  decides_gives b v e a g (asking q) =
      let p = asked_gives b.gate (long b v) b.core v.fits _ _ _ (rw (q.gate_is, q.core_is) at (says.ask q.args q.result q.last q.learnt b.core)) in (
        sym (ap (λ (z : Answer). z.code) q.told_is) ∙ p.0,
        (sym q.left_is ∙ p.1.0, sym (ap (λ (z : Answer). z.free) q.told_is) ∙ p.1.1 ∙ ap free_valves q.left_is),
      )
  decides_gives b v e a g (told m n d) = decide_frees cs.gate says.gate b.gate _ a g d (long b v)

  known_begins : (s began : State) (x : Start) (g : List ℕ) → C.Did cs.core s (start x) (plain 0) began → g ≡ begun
      → Known (record { core = began; history = record { origin = x; began = began; log = [] }; gate = g; events = [] })
  unfolding step ran_from ran
  known_begins s began x g d e =
      let p = A.steps cs.core says.core s began (start x) (plain 0) d in
      let ok : (start_call s x).code ≡ 0 = ap (λ (z : Stepped). z.reply.code) p in
      let at : (start_call s x).state ≡ began = ap (λ (z : Stepped). z.state) p in
      record {
        bytes = e;
        stop = sym (rw at at (start-fresh s x ok));
        fits = rw at at (accepted_fits s x ok);
        since = record { origin = s; given = x; accepted = ok; calls = []; ran_is = ap (λ (t : State). record { state = t; history = record { origin = x; began = t; log = [] } }) at };
      }

  -- no decision is an answer of the core
  stop_decided : (b : Boom) (e : Event) (a : Answer) (g : List ℕ) → Decides cs b a g e → G.stopped (e ∷ b.events) ≡ G.stopped b.events
  stop_decided b e a g (asking q) = refl
  stop_decided b e a g (told m n d) = refl

  known : (b : Boom) → Run cs b → Known b
  known b (begins {s = s} {began = c} {x = x} {g = g} d e) = known_begins s c x g d (began cs.gate says.gate g e)
  known b (called {b = o} {c = c} {r = r} {s = s} {g = g} u d h) =
      let v = known o u in
      let p = A.steps cs.core says.core o.core s c r d in
      record {
        bytes = shown-bytes o v c r g h;
        stop = rw p at (stop_step o.core c o.events v.stop);
        fits = rw p at (step_fits o.core c v.fits);
        since = since_more o.core o.history c r s v.since p;
      }
  known b (decides {b = o} {e = e} {a = a} {g = g} u d) =
      let v = known o u in
      record {
        bytes = (decides_gives o v e a g d).1.0 ∙ ap (λ (t : List ℕ). after t e) v.bytes;
        stop = stop_decided o e a g d ∙ v.stop;
        fits = v.fits;
        since = v.since;
      }

  -- ---- a freed valve

  is_free_lem : (v : Valve) → ◌≡◌ {A = ℕ} (cond (is_free v) 1 0) 1 → is_free v ≡ true
  is_free_lem free e = refl
  is_free_lem closed2 e = absurd (omega (arith, e))
  is_free_lem closed1 e = absurd (omega (arith, e))
  is_free_lem closed e = absurd (omega (arith, e))

  counted : (b : Boom) → Known b → (k : ℕ) → mets_of k (S.decision b ∷ b.events) ≡ (not (stopped b.core.config) && says_yes b.core (limit_of k)) ∷ mets_of k b.events
  counted b v k = rw (v.stop, gate_claim.own (says_yes b.core) k)

  must_be_met : (k : ℕ) → k < 48 → (es : List Event) (ms : List Bool) (m : Bool) → mets_of k es ≡ m ∷ ms → is_free (valve_at (gate es) k) ≡ true → m ≡ true
  must_be_met k h es ms true p e = refl
  must_be_met k h es ms false p e = true_false (sym e ∙ gate_claim.unmet k h es ms p)

  -- a yes that the gate is handed for a limit is one of the core's own
  says_met : (s : State) (limit n : ℕ) → Says cs s limit n → yes n ≡ true → four_met s limit ≡ true
  unfolding yes
  says_met s limit n (answered {lower = lower} {r = r} l d) e =
      four_satellites.wider s lower limit l (four_is s lower (rw (said s lower r d) e))
  says_met s limit n no e = true_false (sym e)

  -- a valve's own limit
  own_met_lem : (s : State) (k : ℕ) (a b : Bool) → (a ≡ true → four_met s 20 ≡ true) → (b ≡ true → four_met s 10 ≡ true) → own_met k a b ≡ true → four_met s (limit_of k) ≡ true
  unfolding own_met
  own_met_lem s k a b f h e = go (outer k) e
    where
      go : (t : Bool) → cond t b a ≡ true → four_met s (cond t 10 20) ≡ true
      go true e = h e
      go false e = f e

  -- what a decision finds met is so by the core's own state, and the core is not stopped
  record Found (b : Boom) (k : ℕ) : Type 0 where
    running : stopped b.core.config ≡ false
    met : four_met b.core (limit_of k) ≡ true

  found : (b : Boom) → Known b → (k : ℕ) (x y : Bool) → (x ≡ true → four_met b.core 20 ≡ true) → (y ≡ true → four_met b.core 10 ≡ true)
      → k < 48 → is_free (valve_at (gate (decide x y ∷ b.events)) k) ≡ true → Found b k
  found b v k x y f h i e =
      let m = must_be_met k i (decide x y ∷ b.events) (mets_of k b.events) (not (G.stopped b.events) && own_met k x y) refl e in
      record {
        running = sym v.stop ∙ not-true _ (and_left (not (G.stopped b.events)) _ m);
        met = own_met_lem b.core k x y f h (and_right (not (G.stopped b.events)) _ m);
      }

  found_by : (b : Boom) → Known b → (e : Event) (a : Answer) (g : List ℕ) → Decides cs b a g e → (k : ℕ) → k < 48 → is_free (valve_at (gate (e ∷ b.events)) k) ≡ true → Found b k
  found_by b v e a g (asking q) k i o = found b v k _ _ (four_is b.core 20) (four_is b.core 10) i o
  found_by b v e a g (told {met20 = x} {met10 = y} m n d) k i o = found b v k _ _ (says_met b.core 20 x m) (says_met b.core 10 y n) i o

  freed : (b : Boom) (e : Event) (a : Answer) (g : List ℕ) → Known b → Decides cs b a g e → (k : ℕ) → k < 48 → a.free / 2 ^ k % 2 ≡ 1 → Freed b k
  freed b e a g v d k h i =
      let f = decides_gives b v e a g d in
      let at : g ≡ gate (e ∷ b.events) = f.1.0 ∙ ap (λ (u : List ℕ). after u e) v.bytes in
      let one : ◌≡◌ {A = ℕ} (cond (is_free (valve_at g k)) 1 0) 1 = sym (gate_claim.digits g k h) ∙ ap (λ (n : ℕ). n / 2 ^ k % 2) (sym f.1.1) ∙ i in
      let p = found_by b v e a g d k h (ap (λ (u : List ℕ). is_free (valve_at u k)) (sym at) ∙ is_free_lem (valve_at g k) one) in
      let y = four_yes b.core v.fits (limit_of k) p.met in
      record {
        running = p.running;
        met = p.met;
        backed = backed b.core b.history v.since (limit_of k) (λ z. absurd (omega (arith, z, y)));
      }

  pub safe_of : SafeOf cs
  safe_of =
      record {
        bytes = λ b r. (known b r).bytes;
        stop_known = λ b r. (let v = known b r in ap stop_seen v.bytes ∙ stop_is b.events ∙ v.stop);
        counts = λ b r k. counted b (known b r) k;
        answers = λ b e a g r d. (let f = decides_gives b (known b r) e a g d in (f.0, f.1.1));
        freed = λ b e a g r d k h i. freed b e a g (known b r) d k h i;
      }
