-- Each exported call's contract is the rule that `step` uses; so a run of exported calls is a run of the rules, by one induction, and the claim of
-- demand 3 holds of it. Assumes nothing.
use Prim.Native.Nat.{ℕ}
use mathlib.Core.Path.{◌≡◌, refl, sym, ◌∙◌, ap}
use mathlib.Core.List.{List, [], ◌∷◌}
use Rattle.rules.specs.Calls.{Start, Told, SubframeTold, SetRead, OfferRead, FourRead, ProgressRead, start_call}
use Rattle.rules.specs.Claim.{FairHistory}
use Rattle.rules.specs.Log.{Call, start, Reply, plain, subframe_reply, set_reply, offer_reply, four_reply, progress_reply, Stepped, History, advanced, step, asked, ran, ran_from}
use Rattle.rules.specs.State.{State}
use Rattle.rules.proofs.MessageProgress.{message_progress}
use Rattle.rules.proofs.Sound.{claim, four_satellites}
use Rattle.rules.proofs.Sizes.{tag_sizes}
use Rattle.rules.proofs.Whole.{lost_fields}
use Rattle.assurance.specs.Run.{Clause, Made, StartLearnt, WordLearnt, SubframeLearnt, VerdictLearnt, ReadSetLearnt, ReadOfferLearnt, FourLearnt, ProgressLearnt, StartDid, WordDid, SubframeDid, VerdictDid, ReadSetDid, ReadOfferDid, FourDid, ProgressDid, read_set_before, read_offer_before, four_before, progress_before, Clauses, written, Did, started, worded, subframed, judged, set_read, offer_read, four_asked, progress_asked, Done, Run, history_of, ClaimOf}
use Rattle.assurance.proofs.Boundary.{Says}

abbrev Steps : State → Call → Reply → State → Type 0
Steps s c r s' = step s c ≡ record { reply = r; state = s' }

-- ---- one lemma a call

-- a call whose contract is a step of the rules
made_steps : (Args : Type 0) (Learnt : Clause Args)
    (before : Args → State → State)
    (given : Args → Call)
    (after : Args → Args → State → State)
    (told : ℕ → Args → Reply)
    → ((args : Args) (r : ℕ) (last : Args) (s : State) → Learnt args r last → Steps (before args s) (given args) (told r last) (after args last s))
    → (s s' : State) (c : Call) (r : Reply) → Made Args Learnt before given after told s c r s' → Steps s c r s'
made_steps Args Learnt before given after told h s s' c r d =
    rw (d.before_is, d.call_is, d.after_is, d.reply_is) at (h d.args d.result d.last s d.learnt)

start-steps : (s s' : State) (c : Call) (r : Reply) → StartDid StartLearnt s c r s' → Steps s c r s'
unfolding step
start-steps = made_steps _ _ _ _ _ _ (λ args r last s d. ap (λ (t : Told). record { reply = plain t.code; state = t.state }) (sym d))

word-steps : (s s' : State) (c : Call) (r : Reply) → WordDid WordLearnt s c r s' → Steps s c r s'
unfolding step
word-steps = made_steps _ _ _ _ _ _ (λ args r last s d. ap (λ (t : Told). record { reply = plain t.code; state = t.state }) (sym (d s)))

subframe-steps : (s s' : State) (c : Call) (r : Reply) → SubframeDid SubframeLearnt s c r s' → Steps s c r s'
unfolding step
subframe-steps = made_steps _ _ _ _ _ _ (λ args r last s d. ap (λ (t : SubframeTold). record { reply = subframe_reply t.hkroot t.mack t.count t.area; state = t.state }) (sym d))

verdict_steps : (s s' : State) (c : Call) (r : Reply) → VerdictDid VerdictLearnt s c r s' → Steps s c r s'
unfolding step
verdict_steps = made_steps _ _ _ _ _ _ (λ args r last s d. ap (λ (t : Told). record { reply = plain t.code; state = t.state }) (sym (d s)))

read_set-steps : (s s' : State) (c : Call) (r : Reply) → ReadSetDid ReadSetLearnt s c r s' → Steps s c r s'
unfolding step asked
read_set-steps = made_steps _ _ _ _ _ _ (λ args r last s d. ap (λ (t : SetRead). record { reply = set_reply t; state = read_set_before args s }) (sym (d s)))

read_message-steps : (s s' : State) (c : Call) (r : Reply) → ReadOfferDid ReadOfferLearnt s c r s' → Steps s c r s'
unfolding step asked
read_message-steps = made_steps _ _ _ _ _ _ (λ args r last s d. ap (λ (t : OfferRead). record { reply = offer_reply t; state = read_offer_before args s }) (sym (d s)))

four_steps : (s s' : State) (c : Call) (r : Reply) → FourDid FourLearnt s c r s' → Steps s c r s'
unfolding step asked
four_steps = made_steps _ _ _ _ _ _ (λ args r last s d. ap (λ (t : FourRead). record { reply = four_reply t; state = four_before args s }) (sym (d s)))

progress_steps : (s s' : State) (c : Call) (r : Reply) → ProgressDid ProgressLearnt s c r s' → Steps s c r s'
unfolding step asked
progress_steps = made_steps _ _ _ _ _ _ (λ args r last s d. ap (λ (t : ProgressRead). record { reply = progress_reply t; state = progress_before args s }) (sym (d s)))

by_rule : (s s' : State) (c : Call) (r : Reply) → Did written s c r s' → Steps s c r s'
by_rule s s' c r (started d) = start-steps s s' c r d
by_rule s s' c r (worded d) = word-steps s s' c r d
by_rule s s' c r (subframed d) = subframe-steps s s' c r d
by_rule s s' c r (judged d) = verdict_steps s s' c r d
by_rule s s' c r (set_read d) = read_set-steps s s' c r d
by_rule s s' c r (offer_read d) = read_message-steps s s' c r d
by_rule s s' c r (four_asked d) = four_steps s s' c r d
by_rule s s' c r (progress_asked d) = progress_steps s s' c r d

-- a call by clauses that say more is a call by those that say less
made_by : (Args : Type 0) (P Q : Clause Args)
    (before : Args → State → State)
    (given : Args → Call)
    (after : Args → Args → State → State)
    (told : ℕ → Args → Reply)
    → ((args : Args) (r : ℕ) (last : Args) → P args r last → Q args r last)
    → (s s' : State) (c : Call) (r : Reply) → Made Args P before given after told s c r s' → Made Args Q before given after told s c r s'
made_by Args P Q before given after told h s s' c r d =
    record { args = d.args; result = d.result; last = d.last; before_is = d.before_is; call_is = d.call_is; after_is = d.after_is; reply_is = d.reply_is; learnt = h d.args d.result d.last d.learnt }

module _ (k l : Clauses) (h : Says k l) where
  pub did_by : (s s' : State) (c : Call) (r : Reply) → Did k s c r s' → Did l s c r s'
  did_by s s' c r (started d) = started (made_by _ _ _ _ _ _ _ h.start s s' c r d)
  did_by s s' c r (worded d) = worded (made_by _ _ _ _ _ _ _ h.word s s' c r d)
  did_by s s' c r (subframed d) = subframed (made_by _ _ _ _ _ _ _ h.subframe s s' c r d)
  did_by s s' c r (judged d) = judged (made_by _ _ _ _ _ _ _ h.verdict s s' c r d)
  did_by s s' c r (set_read d) = set_read (made_by _ _ _ _ _ _ _ h.read_set s s' c r d)
  did_by s s' c r (offer_read d) = offer_read (made_by _ _ _ _ _ _ _ h.read_offer s s' c r d)
  did_by s s' c r (four_asked d) = four_asked (made_by _ _ _ _ _ _ _ h.four s s' c r d)
  did_by s s' c r (progress_asked d) = progress_asked (made_by _ _ _ _ _ _ _ h.progress s s' c r d)

-- ---- a run of exported calls is a run of the rules

abbrev calls_of : List Done → List Call
calls_of [] = []
calls_of (d ∷ ds) = d.call ∷ calls_of ds

module _ (k : Clauses) (h : Says k written) where
  pub steps : (s s' : State) (c : Call) (r : Reply) → Did k s c r s' → Steps s c r s'
  steps s s' c r d = by_rule s s' c r (did_by k written h s s' c r d)

  pub run_is : (ds : List Done) (s : State) (i : History) → Run k s ds → (ran s i (calls_of ds)).history ≡ history_of i ds
  unfolding ran
  run_is [] s i u = refl
  run_is (d ∷ ds) s i u =
      ap (λ (z : Stepped). (ran z.state (advanced i d.call z.reply.code z.reply z.state) (calls_of ds)).history) (steps s d.left d.call d.reply u.0)
      ∙ run_is ds d.left (advanced i d.call d.reply.code d.reply d.left) u.1

  -- ---- the claim

  -- an accepted start, by the rule
  accepted : (s left : State) (x : Start) → Did k s (start x) (plain 0) left → ((start_call s x).code ≡ 0) × ((start_call s x).state ≡ left)
  unfolding step
  accepted s left x d =
      let e : Steps s (start x) (plain 0) left = steps s left (start x) (plain 0) d in
      (ap (λ (z : Stepped). z.reply.code) e, ap (λ (z : Stepped). z.state) e)

  fair : (s began : State) (x : Start) → Did k s (start x) (plain 0) began → (ds : List Done) → Run k began ds → FairHistory (history_of (record { origin = x; began = began; log = [] }) ds)
  unfolding ran_from
  fair s began x d ds u =
      let a = accepted s began x d in
      let f : FairHistory (ran_from s x (calls_of ds)).history = claim.fair s x a.0 (calls_of ds) in
      rw (a.1, run_is ds began (record { origin = x; began = began; log = [] }) u) at f

  begins : (s s' left left' : State) (x : Start) → Did k s (start x) (plain 0) left → Did k s' (start x) (plain 0) left' → left ≡ left'
  begins s s' left left' x d d' =
      let a = accepted s left x d in
      let b = accepted s' left' x d' in
      sym a.1 ∙ claim.begins s s' x a.0 b.0 ∙ b.1

  pub claim_of : ClaimOf k
  claim_of = record { steps = steps; fair = fair; begins = begins; refused = claim.refused; lost_fields = lost_fields; tag_sizes = tag_sizes; four_satellites = four_satellites; message_progress = message_progress }
