-- What the clock of sub-frames says of the log: it is the last time that was noted, and no section answered 0 has a later one.
use Prim.Native.Nat.{ℕ, zero, suc, ◌+◌, ◌/◌, ◌≤◌}
use mathlib.Core.Path.{◌≡◌, refl, ◌∙◌, ap}
use mathlib.Core.Logic.{◌≢◌, ⊎_elim}
use mathlib.Core.Bool.{Bool, true, false, cond, not, ◌&&◌}
use mathlib.Core.List.{List, [], ◌∷◌}
use mathlib.Core.Option.{Option, none, some}
use native.Mathlib.Nat.{le_refl}
use native.Mathlib.Omega.{arith}
use lib.Dec.{T, eqb, leb}
use lib.ListN.{length, get_or, set, replicate}
use lib.Seq.{get_or-set_same, get_or-set_other}
use borrow.Author.Tests.{eqb-true}
use Rattle.laws.specs.Lists.{splice}
use Rattle.laws.specs.Refusal.{Check, first_refusal, neb}
use Rattle.laws.proofs.Refusal.{by_test}
use Rattle.laws.proofs.Splice.{either}
use Rattle.laws.proofs.Tests.{left_of, right_of}
use Rattle.rules.specs.Bits.{within, any_of, same}
use Rattle.rules.specs.Calls.{Start, Word, Subframe, SubframeTold, HkrootDone, MackDone, start_call, word_call, word_taken, word_checks, subframe_call, subframe_checks, verdict_call, verdict_checks, fields_of, halves_done, noted, hkroot_received, hkroot_half, store_done, kroot_done, pkr_done, mack_half, section_proved, section_taken, fresh}
use Rattle.rules.specs.Gather.{Gathered, gathered, gather_checks, stored, with_block, complete, hkroot_of, mack_of, header_of, dsm_id_of, status_of}
use Rattle.rules.specs.Kroot.{Offer, kroot_judged, kroot_checks}
use Rattle.rules.specs.Log.{Call, start, word, subframe, verdict, ask, Question, Entry, Log, Once, here, earlier, step, asked, noted_in, section_in, subframe_answered}
use Rattle.rules.specs.Navdata.{held_type, word_type}
use Rattle.rules.specs.Pkr.{Renewed, pkr_judged, pkr_checks}
use Rattle.rules.specs.Received.{fields_came}
use Rattle.rules.specs.State.{State, Store, last_subframe, stopped, tree_root, clocks_length}
use Rattle.rules.specs.Times.{time_valid, stamp_of}
use Rattle.rules.specs.Verdict.{Verdict, judged_verdict, vouched, message_header, message_contents, same_contents}
use Rattle.rules.proofs.Bounds.{prn_range}
use Rattle.rules.proofs.Choices.{by_number, no}
use Rattle.rules.proofs.HkrootKept.{received_clocks}
use Rattle.rules.proofs.Invariant.{ClockIs}
use Rattle.rules.proofs.Later.{entry}
use Rattle.rules.proofs.Parts.{get_or-zeros}
use Rattle.rules.proofs.Refused.{start-kept}
use Rattle.rules.proofs.SubframeKept.{entry_of, Fit, fit, five_fit, lengths_wrong, out_of_range, too_early}

-- ---- an entry that notes no time

abbrev is_some : {A : Type 0} → Option A → ℕ
is_some none = 0
is_some (some a) = 1

none_some : {A B : Type 0} {a : A} {o : Option A} → o ≡ none → o ≡ some a → B
none_some {o = o} n e =
    let z : is_some o ≡ 0 = ap is_some n in
    let y : is_some o ≡ 1 = ap is_some e in
    absurd (omega arith)

by_place : {P : Entry → Log → Type 0} {A : Type 0} {x : Entry} {l : Log} → Once P (x ∷ l) → (P x l → A) → (Once P l → A) → A
by_place (here p) f g = f p
by_place (earlier o) f g = g o

unnoted : (clocks clocks' : List ℕ) (x : Entry) (l : Log) → last_subframe clocks' ≡ last_subframe clocks → noted_in x ≡ none → section_in x ≡ none → ClockIs clocks l → ClockIs clocks' (x ∷ l)
unnoted clocks clocks' x l e n q v =
    record {
      last = rw (e, n) v.last;
      last_valid = λ t h. v.last_valid t (rw n at h);
      sections = λ sub o. rw e (by_place o (λ p. none_some q p) (λ p. v.sections sub p));
    }

-- ---- an entry that notes one

abbrev time_in : Option Subframe → ℕ
time_in none = 0
time_in (some x) = x.time

abbrev time_of : Option ℕ → ℕ
time_of none = 0
time_of (some t) = t

-- a section that was answered 0 is of this sub-frame
same_time : (x : Entry) (area : List ℕ) (sub other : Subframe) (n : ℕ) → x.call ≡ subframe area sub → x.reply.mack ≡ n → section_in x ≡ some other → sub.time ≡ other.time
same_time x area sub other zero is m e = ap time_in (rw (is, m) at e)
same_time x area sub other (suc n) is m e = none_some (rw (is, m) refl) e

notes : (clocks clocks' area : List ℕ) (sub : Subframe) (x : Entry) (l : Log) → x.call ≡ subframe area sub → within 1 4 x.reply.code ≡ false
    → last_subframe clocks' ≡ stamp_of sub.time → time_valid sub.time ≡ true → last_subframe clocks ≤ stamp_of sub.time → ClockIs clocks l → ClockIs clocks' (x ∷ l)
notes clocks clocks' area sub x l is number now valid onward v =
    record {
      last = rw (is, number) now;
      last_valid = λ t h. (
          let e : sub.time ≡ t = ap time_of (rw (is, number) at h) in
          rw (← e) valid
          );
      sections = λ other o.
          by_place o
          (λ p. (let e = same_time x area sub other x.reply.mack is refl p in rw (← e) (valid, rw now (le_refl _))))
          (λ p. (let q = v.sections other p in let g = q.1 in (q.0, rw now (omega arith))));
    }

-- ---- numbers of the HKROOT half

-- none of these numbers is 1 to 4
abbrev outside : List Check → Bool
outside [] = true
outside (c ∷ cs) = not (within 1 4 c.number) && outside cs

first_outside : (cs : List Check) → T (outside cs) → within 1 4 (first_refusal cs) ≡ false
first_outside [] t = refl
first_outside (c ∷ cs) t =
    by_test (λ (n : ℕ). within 1 4 n ≡ false) c.fails
    (λ _. outside_one (within 1 4 c.number) (left_of (not (within 1 4 c.number)) (outside cs) t))
    (λ _. first_outside cs (right_of (not (within 1 4 c.number)) (outside cs) t))
  where
    outside_one : (b : Bool) → T (not b) → b ≡ false
    outside_one true t = absurd t
    outside_one false t = refl

gathered_number : (st : Store) (t : ℕ) (hk : List ℕ) → within 1 4 (gathered st t hk).code ≡ false
unfolding gathered stored
gathered_number st t hk =
    let Q : Gathered → Type 0 = λ g. within 1 4 g.code ≡ false in
    by_number Q (first_refusal (gather_checks st t (dsm_id_of hk) hk))
    (λ _. by_test Q (complete (with_block st t (dsm_id_of hk) hk) (dsm_id_of hk)) (λ _. refl) (λ _. refl))
    (λ _. first_outside (gather_checks st t (dsm_id_of hk) hk) tt)

kroot_number : (keys config offer : List ℕ) (header : ℕ) (d : List ℕ) → within 1 4 (kroot_judged keys config offer header d).code ≡ false
unfolding kroot_judged kroot_checks
kroot_number keys config offer header d =
    by_number (λ (j : Offer). within 1 4 j.code ≡ false) (first_refusal (kroot_checks keys config d)) (λ _. refl) (λ _. first_outside (kroot_checks keys config d) tt)

pkr_number : (keys root d : List ℕ) → within 1 4 (pkr_judged keys root d).code ≡ false
unfolding pkr_judged pkr_checks
pkr_number keys root d =
    by_number (λ (j : Renewed). within 1 4 j.code ≡ false) (first_refusal (pkr_checks keys root d)) (λ _. refl) (λ _. first_outside (pkr_checks keys root d) tt)

hkroot_number : (s : State) (t marks : ℕ) (hk : List ℕ) → within 1 4 (hkroot_received s t marks hk).code ≡ false
unfolding hkroot_received hkroot_half store_done kroot_done pkr_done
hkroot_number s t marks hk =
    let P : HkrootDone → Type 0 = λ a. within 1 4 a.code ≡ false in
    let g = gathered s.store t hk in
    by_test P (eqb (fields_came marks 15) 15)
    (λ _.
    by_test P (eqb (length g.dsm) 0)
    (λ _. gathered_number s.store t hk)
    (λ _. by_test P (leb (dsm_id_of hk) 11) (λ _. kroot_number s.pubkeys s.config s.offer (header_of hk) g.dsm) (λ _. pkr_number s.pubkeys (tree_root s.config) g.dsm)))
    (λ _. refl)

-- ---- the sub-frame

noted_clock : (s : State) (sub : Subframe) → Fit s sub → last_subframe (noted s sub).clocks ≡ stamp_of sub.time
unfolding noted last_subframe
noted_clock s sub f =
    let low = (prn_range sub.prn f.prn).0 in
    let z = f.size.clocks in
    get_or-set_other (set s.clocks 0 (stamp_of sub.time)) sub.prn 0 (stamp_of sub.time) 0 (λ e. absurd (omega (arith, e, low)))
    ∙ get_or-set_same s.clocks 0 (stamp_of sub.time) 0 (omega arith)

mack_clocks : (s : State) (prn t marks header : ℕ) (mack : List ℕ) → (mack_half s prn t marks header mack).state.clocks ≡ s.clocks
unfolding mack_half section_taken
mack_clocks s prn t marks header mack =
    by_number (λ (m : MackDone). m.state.clocks ≡ s.clocks) (section_proved s prn t marks header mack).code (λ _. refl) (λ _. refl)

-- what is to be shown of what a sub-frame gives
abbrev Timely : State → List ℕ → Subframe → Log → SubframeTold → Type 0
Timely s area sub l r = ClockIs r.state.clocks (entry_of area sub r ∷ l)

module _ (s : State) (area : List ℕ) (sub : Subframe) (l : Log) (v : ClockIs s.clocks l) (f : Fit s sub) where
  abbrev hk : List ℕ
  hk = hkroot_of (fields_of sub) 15

  abbrev first : HkrootDone
  first = hkroot_received (noted s sub) sub.time sub.marks hk

  noted_timely : (r : SubframeTold) → r.state.clocks ≡ (noted s sub).clocks → within 1 4 r.hkroot ≡ false → Timely s area sub l r
  noted_timely r same number = notes s.clocks r.state.clocks area sub _ l refl number (rw same (noted_clock s sub f)) f.time f.onward v

  halves_timely : Timely s area sub l (halves_done (noted s sub) area sub)
  unfolding halves_done
  halves_timely =
      let second = mack_half first.state sub.prn sub.time sub.marks (header_of hk) (mack_of (fields_of sub) 15) in
      let number = hkroot_number (noted s sub) sub.time sub.marks hk in
      let same = received_clocks (noted s sub) sub.time sub.marks hk in
      by_test (Timely s area sub l) first.stops
      (λ _. noted_timely (record { hkroot = first.code; mack = 4; count = 0; state = first.state; area = area }) same number)
      (λ _.
      noted_timely
      (record { hkroot = first.code; mack = second.code; count = length second.records / 12; state = second.state; area = splice area 0 second.records })
      (mack_clocks first.state sub.prn sub.time sub.marks (header_of hk) (mack_of (fields_of sub) 15) ∙ same)
      number)

-- a number of the sub-frame's own checks is 1 to 4, or 5
own_number : (a b c d e : Bool) → cond {A = ℕ} a 1 (cond b 2 (cond c 4 (cond d 3 (cond e 5 0)))) ≢ 0
    → eqb (cond a 1 (cond b 2 (cond c 4 (cond d 3 (cond e 5 0))))) 5 ≡ false → within 1 4 (cond a 1 (cond b 2 (cond c 4 (cond d 3 (cond e 5 0))))) ≡ true
own_number true b c d e z h = refl
own_number false true c d e z h = refl
own_number false false true d e z h = refl
own_number false false false true e z h = refl
own_number false false false false true z h = no h refl
own_number false false false false false z h = absurd (z refl)

checks_number : (s : State) (area : List ℕ) (sub : Subframe) → first_refusal (subframe_checks s area sub) ≢ 0 → eqb (first_refusal (subframe_checks s area sub)) 5 ≡ false
    → within 1 4 (first_refusal (subframe_checks s area sub)) ≡ true
unfolding subframe_checks
checks_number s area sub =
    own_number (lengths_wrong s area sub) (out_of_range sub) (stopped s.config) (too_early s sub)
    (neb (fields_came sub.marks 15) 0 && same (fields_of sub) (replicate 75 0))

no_section : (area : List ℕ) (sub : Subframe) (n : ℕ) → n ≢ 0 → subframe_answered n (subframe area sub) ≡ none
no_section area sub zero z = absurd (z refl)
no_section area sub (suc n) z = refl

subframe_timely : (s : State) (area : List ℕ) (sub : Subframe) (l : Log) → ClockIs s.clocks l → Timely s area sub l (subframe_call s area sub)
unfolding subframe_call
subframe_timely s area sub l v =
    let code = first_refusal (subframe_checks s area sub) in
    let r : SubframeTold = record { hkroot = code; mack = code; count = 0; state = cond (eqb code 5) (noted s sub) s; area = area } in
    by_number (Timely s area sub l) code
    (λ e. halves_timely s area sub l v (fit s area sub e))
    (λ z.
    ⊎_elim
    (λ e. noted_timely s area sub l v (five_fit s area sub (eqb-true code 5 e)) r (rw e refl) (rw (eqb-true code 5 e) refl))
    (λ e. unnoted s.clocks r.state.clocks (entry_of area sub r) l (rw e refl) (rw (checks_number s area sub z e) refl) (no_section area sub code z) v)
    (either (eqb code 5)))

-- ---- the other calls

word_last : (s : State) (w : Word) → last_subframe (step s (word w)).state.clocks ≡ last_subframe s.clocks
unfolding step word_call word_taken last_subframe
word_last s w =
    let P : State → Type 0 = λ s'. get_or s'.clocks 0 0 ≡ get_or s.clocks 0 0 in
    by_number P (first_refusal (word_checks s w))
    (λ _. by_test P (held_type (word_type w.bytes)) (λ _. get_or-set_other s.clocks (36 + w.prn) 0 (stamp_of w.time) 0 (λ e. absurd (omega (arith, e)))) (λ _. refl))
    (λ _. refl)

verdict_clocks : (s : State) (v : Verdict) → (step s (verdict v)).state.clocks ≡ s.clocks
unfolding step verdict_call judged_verdict vouched
verdict_clocks s v =
    let P : State → Type 0 = λ s'. s'.clocks ≡ s.clocks in
    let code = first_refusal (verdict_checks s v) in
    by_test P (any_of (eqb code 1 ∷ eqb code 2 ∷ eqb code 4 ∷ []))
    (λ _. refl)
    (λ _.
    by_number P code
    (λ _. by_test P (eqb (status_of (message_header v.message)) 3) (λ _. refl) (λ _. by_test P (same_contents s (message_contents v.message)) (λ _. refl) (λ _. refl)))
    (λ _. by_test P (eqb code 14) (λ _. refl) (λ _. refl)))

ask_section : (q : Question) (n : ℕ) → subframe_answered n (ask q) ≡ none
ask_section q zero = refl
ask_section q (suc n) = refl

-- ---- the clock after each call

-- it is by the log, with this call in it
abbrev pub ClockAfter : State → Log → Call → Type 0
ClockAfter s l c = ClockIs (step s c).state.clocks (entry s c ∷ l)

module _ (s : State) (l : Log) (v : ClockIs s.clocks l) where
  pub refused_start_clock : (x : Start) → (step s (start x)).reply.code ≢ 0 → ClockAfter s l (start x)
  unfolding step
  refused_start_clock x h = unnoted s.clocks _ _ l (ap (λ (s' : State). last_subframe s'.clocks) (start-kept s x h)) refl refl v

  pub word_clock : (w : Word) → ClockAfter s l (word w)
  unfolding step
  word_clock w = unnoted s.clocks _ _ l (word_last s w) refl refl v

  pub subframe_clock : (area : List ℕ) (sub : Subframe) → ClockAfter s l (subframe area sub)
  unfolding step
  subframe_clock area sub = subframe_timely s area sub l v

  pub verdict_clock : (d : Verdict) → ClockAfter s l (verdict d)
  unfolding step
  verdict_clock d = unnoted s.clocks _ _ l (ap last_subframe (verdict_clocks s d)) refl refl v

  pub ask_clock : (q : Question) → ClockAfter s l (ask q)
  unfolding step
  ask_clock q = unnoted s.clocks _ _ l refl refl (ask_section q (asked s q).mack) v

some_entry : {P : Entry → Log → Type 0} {l : Log} → Once P l → 1 ≤ length l
some_entry (here {l = l} p) = omega arith
some_entry (earlier {l = l} o) = omega arith

-- an accepted start
pub start_clock : (s : State) (x : Start) → (start_call s x).state ≡ fresh x → ClockIs (start_call s x).state.clocks []
unfolding fresh last_subframe
start_clock s x e = rw e (record { last = get_or-zeros clocks_length 0; last_valid = λ t h. none_some refl h; sections = λ sub o. absurd (omega (arith, some_entry o)) })
