-- A stop shows in the numbers: after each call the core is stopped if it answered 4, else as before; an accepted start ends a stop.
-- Assumes nothing.
use mathlib.Core.Path.{◌≡◌, refl, sym, ap, ◌∙◌}
use mathlib.Core.Logic.{◌≢◌}
use mathlib.Core.Bool.{Bool, true, false, cond, not, ◌&&◌, ◌||◌}
use mathlib.Core.List.{List, [], ◌∷◌, ◌++◌, append_assoc}
use Prim.Native.Nat.{ℕ, zero, suc}
use native.Mathlib.Omega.{arith}
use lib.Dec.{T, eqb, ltb, leb}
use lib.ListN.{length, get_or, set, replicate, length-append}
use lib.Seq.{get_or-set_same, get_or-append_seam}
use borrow.Author.Tests.{eqb-true, eqb-false, ne_eqb, not-false}
use Rattle.laws.specs.Refusal.{Check, refuse, first_refusal, neb}
use Rattle.laws.proofs.Refusal.{by_test, clear, unless_refused}
use Rattle.laws.proofs.Tests.{left_of, right_of, true_false, and_left, and_right, or_true}
use Rattle.rules.specs.Bits.{any_of, same}
use Rattle.rules.specs.Calls.{Start, Word, Subframe, SubframeTold, HkrootDone, MackDone, start_call, start_checks, start_lengths, start_unfit, fresh, word_call, word_checks, word_unfit, word_taken, verdict_call, verdict_checks, subframe_call, subframe_checks, fields_of, halves_done, noted, hkroot_half, hkroot_received, store_done, kroot_done, pkr_done, mack_half, section_proved, section_taken, section_unfit, chain_of, held_of}
use Rattle.rules.specs.Chain.{Held}
use Rattle.rules.specs.Gather.{gathered, Gathered, gather_checks, stored, complete, with_block, hkroot_of, mack_of, header_of, dsm_id_of, status_of}
use Rattle.rules.specs.Kroot.{kroot_judged, kroot_checks, Offer}
use Rattle.rules.specs.Mack.{Proved, block_checks, block_proved, spare_bits}
use Rattle.rules.specs.Navdata.{word_type, held_type}
use Rattle.rules.specs.Pkr.{Renewed, pkr_judged, pkr_checks}
use Rattle.rules.specs.Received.{field_came, fields_came, key_came, block_received, keys_received}
use Rattle.rules.specs.State.{State, Store, shaped, word_shaped, verdict_shaped, stopped_at, stopped, tree_root, prn_valid, last_subframe, last_subframe_of, last_word_of, area_length, config_length}
use Rattle.rules.specs.Times.{time_valid, stamp_of}
use Rattle.rules.specs.Verdict.{Verdict, vouch_checks, judged_verdict, vouched, same_contents, message_header, message_contents}
use Rattle.rules.specs.declared.Chain.{Chain}
use Rattle.rules.proofs.Choices.{by_number}
use Rattle.rules.proofs.Lengths.{sized}

-- ---- lists of checks

-- no check has the number 4
abbrev no_four : List Check → Bool
no_four [] = true
no_four (c ∷ cs) = not (eqb c.number 4) && no_four cs

not_four : (n : ℕ) → T (not (eqb n 4)) → n ≢ 4
not_four n t e = rw e at t

never : (cs : List Check) → T (no_four cs) → first_refusal cs ≢ 4
never [] t = λ e. absurd (omega (arith, e))
never (c ∷ cs) t =
    by_test (λ (n : ℕ). n ≢ 4) c.fails (λ _. not_four c.number (left_of (not (eqb c.number 4)) (no_four cs) t))
    (λ _. never cs (right_of (not (eqb c.number 4)) (no_four cs) t))

-- "1, 2, 4, ..": 4 is answered only where its check fails
third : (a b c : Bool) (n : ℕ) → n ≢ 4 → cond a 1 (cond b 2 (cond c 4 n)) ≡ 4 → c ≡ true
third true b c n h e = absurd (omega (arith, e))
third false true c n h e = absurd (omega (arith, e))
third false false true n h e = refl
third false false false n h e = absurd (h e)

-- the core is stopped after a call that keeps its settings
tells : (n : ℕ) (b : Bool) → (n ≡ 4 → b ≡ true) → b ≡ cond (eqb n 4) true b
tells n b f = go (eqb n 4) refl
  where
    go : (t : Bool) → eqb n 4 ≡ t → b ≡ cond t true b
    go true e = f (eqb-true n 4 e)
    go false e = refl

twice : (n : ℕ) (b : Bool) → (n ≡ 4 → b ≡ true) → b ≡ cond (eqb n 4 || eqb n 4) true b
twice n b f = go (eqb n 4) refl
  where
    go : (t : Bool) → eqb n 4 ≡ t → b ≡ cond (t || t) true b
    go true e = f (eqb-true n 4 e)
    go false e = refl

-- settings that are marked
halted : (config after : List ℕ) (b : Bool) → length config ≡ config_length → after ≡ set config stopped_at 1 → stopped after ≡ cond (b || true) true (stopped config)
unfolding stopped
halted config after b l e = rw (e, or_true b, get_or-set_same config stopped_at 1 0 (omega arith))

-- ---- start

last : (m r : List ℕ) → length m ≡ 28 → length r ≡ 32 → ◌≡◌ {A = ℕ} (get_or (m ++ (r ++ 0 ∷ [])) 60 0) 0
last m r p q =
    let n : length (m ++ r) ≡ 60 = length-append m r ∙ (rw (p, q) refl) in
    ap (λ (l : List ℕ). get_or l 60 0) (sym (append_assoc m r (0 ∷ []))) ∙ ap (λ (k : ℕ). get_or ((m ++ r) ++ 0 ∷ []) k 0) (sym n)
    ∙ get_or-append_seam (m ++ r) 0 [] 0

-- a fresh core's mark is its last byte
ends : (x : Start) → length x.marks ≡ 28 → length x.root ≡ 32 → stopped (fresh x).config ≡ false
unfolding fresh stopped
ends x m r = rw (last x.marks x.root m r)

start_refused : (s : State) (x : Start) → (start_call s x).code ≢ 0 → (start_call s x).state ≡ s
unfolding start_call
start_refused s x n = unless_refused (first_refusal (start_checks s x)) (fresh x) s n

pub start-fresh : (s : State) (x : Start) → (start_call s x).code ≡ 0 → stopped (start_call s x).state.config ≡ false
unfolding start_call start_checks start_lengths
start-fresh s x e =
    let c = clear (refuse (not (shaped s && start_lengths x)) 1 ∷ refuse (start_unfit x) 2 ∷ []) tt e in
    let l = and_right (shaped s) (start_lengths x) (not-false (shaped s && start_lengths x) c.0) in
    let r = and_right (eqb (length x.marks) 28) (eqb (length x.root) 32 && eqb (length x.key) 67) l in
    rw e (ends x (eqb-true (length x.marks) 28 (and_left (eqb (length x.marks) 28) (eqb (length x.root) 32 && eqb (length x.key) 67) l))
    (eqb-true (length x.root) 32 (and_left (eqb (length x.root) 32) (eqb (length x.key) 67) r)))

pub start_stop : (s : State) (x : Start) → stopped (start_call s x).state.config ≡ cond (eqb (start_call s x).code 0) false (stopped s.config)
start_stop s x = go (eqb (start_call s x).code 0) refl
  where
    go : (t : Bool) → eqb (start_call s x).code 0 ≡ t → stopped (start_call s x).state.config ≡ cond t false (stopped s.config)
    go true e = start-fresh s x (eqb-true (start_call s x).code 0 e)
    go false e = ap (λ (t : State). stopped t.config) (start_refused s x (eqb-false (start_call s x).code 0 e))

-- ---- word

word-config : (s : State) (w : Word) → (word_call s w).state.config ≡ s.config
unfolding word_call word_taken
word-config s w =
    by_number (λ (t : State). t.config ≡ s.config) (first_refusal (word_checks s w))
    (λ _. by_test (λ (t : State). t.config ≡ s.config) (held_type (word_type w.bytes)) (λ _. refl) (λ _. refl))
    (λ _. refl)

word_four : (s : State) (w : Word) → (word_call s w).code ≡ 4 → stopped s.config ≡ true
unfolding word_call word_checks
word_four s w e =
    third (not (word_shaped s && eqb (length w.bytes) 16)) (word_unfit w) (stopped s.config)
    (first_refusal (refuse (ltb (stamp_of w.time) (last_word_of s.clocks w.prn)) 3 ∷ []))
    (never (refuse (ltb (stamp_of w.time) (last_word_of s.clocks w.prn)) 3 ∷ []) tt)
    e

pub word_stop : (s : State) (w : Word) → stopped (word_call s w).state.config ≡ cond (eqb (word_call s w).code 4) true (stopped s.config)
word_stop s w = ap stopped (word-config s w) ∙ tells (word_call s w).code (stopped s.config) (word_four s w)

-- ---- verdict

verdict_config : (s : State) (v : Verdict) → (verdict_call s v).state.config ≡ s.config
unfolding verdict_call judged_verdict vouched
verdict_config s v =
    let P : State → Type 0 = λ t. t.config ≡ s.config in
    let code = first_refusal (verdict_checks s v) in
    by_test P (any_of (eqb code 1 ∷ eqb code 2 ∷ eqb code 4 ∷ [])) (λ _. refl)
    (λ _.
    by_number P code
    (λ _. by_test P (eqb (status_of (message_header v.message)) 3) (λ _. refl) (λ _. by_test P (same_contents s (message_contents v.message)) (λ _. refl) (λ _. refl)))
    (λ _. by_test P (eqb code 14) (λ _. refl) (λ _. refl)))

verdict_four : (s : State) (v : Verdict) → (verdict_call s v).code ≡ 4 → stopped s.config ≡ true
unfolding verdict_call verdict_checks vouch_checks
verdict_four s v e =
    third (not (verdict_shaped s && (eqb (length v.message) 45 && eqb (length v.signature) 132))) (ltb 1 v.good || ltb 15 v.id) (stopped s.config)
    (first_refusal (vouch_checks s v))
    (never (vouch_checks s v) tt)
    e

pub verdict_stop : (s : State) (v : Verdict) → stopped (verdict_call s v).state.config ≡ cond (eqb (verdict_call s v).code 4) true (stopped s.config)
verdict_stop s v = ap stopped (verdict_config s v) ∙ tells (verdict_call s v).code (stopped s.config) (verdict_four s v)

-- ---- sub-frame: the HKROOT half

-- the half's number is not 4; it marks the settings where it stops the core, and only there
record Half (s : State) (a : HkrootDone) : Type 0 where
  number : a.code ≢ 4
  goes : a.stops ≡ false → a.state.config ≡ s.config
  halts : a.stops ≡ true → a.state.config ≡ set s.config stopped_at 1

same_half : (s : State) (a : HkrootDone) → a.code ≢ 4 → a.stops ≡ false → a.state.config ≡ s.config → Half s a
same_half s a n f e = record { number = n; goes = λ _. e; halts = λ t. true_false (sym t ∙ f) }

gathered_four : (st : Store) (t : ℕ) (hk : List ℕ) → (gathered st t hk).code ≢ 4
unfolding gathered stored
gathered_four st t hk =
    by_number (λ (g : Gathered). g.code ≢ 4) (first_refusal (gather_checks st t (dsm_id_of hk) hk))
    (λ _. by_test (λ (g : Gathered). g.code ≢ 4) (complete (with_block st t (dsm_id_of hk) hk) (dsm_id_of hk)) (λ _ e. omega (arith, e)) (λ _ e. omega (arith, e)))
    (λ _. never (gather_checks st t (dsm_id_of hk) hk) tt)

kroot_four : (keys config offer : List ℕ) (header : ℕ) (d : List ℕ) → (kroot_judged keys config offer header d).code ≢ 4
unfolding kroot_judged kroot_checks
kroot_four keys config offer header d =
    by_number (λ (o : Offer). o.code ≢ 4) (first_refusal (kroot_checks keys config d)) (λ _ e. omega (arith, e)) (λ _. never (kroot_checks keys config d) tt)

pkr_four : (keys root d : List ℕ) → (pkr_judged keys root d).code ≢ 4
unfolding pkr_judged pkr_checks
pkr_four keys root d =
    by_number (λ (j : Renewed). j.code ≢ 4) (first_refusal (pkr_checks keys root d)) (λ _ e. omega (arith, e)) (λ _. never (pkr_checks keys root d) tt)

pkr_half : (s : State) (store : Store) (d : List ℕ) → Half s (pkr_done s store d)
unfolding pkr_done
pkr_half s store d =
    record {
      number = pkr_four s.pubkeys (tree_root s.config) d;
      goes = λ e. rw e refl;
      halts = λ e. rw e refl;
    }

hkroot_half_lem : (s : State) (t : ℕ) (hk : List ℕ) → Half s (hkroot_half s t hk)
unfolding hkroot_half store_done kroot_done
hkroot_half_lem s t hk =
    let g = gathered s.store t hk in
    by_test (Half s) (eqb (length g.dsm) 0)
    (λ _. same_half s (store_done s g) (gathered_four s.store t hk) refl refl)
    (λ _.
    by_test (Half s) (leb (dsm_id_of hk) 11)
    (λ _. same_half s (kroot_done s g.store (header_of hk) g.dsm) (kroot_four s.pubkeys s.config s.offer (header_of hk) g.dsm) refl refl)
    (λ _. pkr_half s g.store g.dsm))

received_half : (s : State) (t marks : ℕ) (hk : List ℕ) → Half s (hkroot_received s t marks hk)
unfolding hkroot_received
received_half s t marks hk =
    by_test (Half s) (eqb (fields_came marks 15) 15) (λ _. hkroot_half_lem s t hk)
    (λ _. same_half s (record { code = 17; stops = false; state = s }) (λ e. absurd (omega (arith, e))) refl refl)

-- ---- sub-frame: the MACK half

module _ (c : Chain) (g prn : ℕ) (m : List ℕ) (marks : ℕ) where
  block_four : (first : ℕ) (h : Held) (b : ℕ) → (block_received c g prn first m marks h b).code ≢ 4
  unfolding block_received block_proved block_checks
  block_four first h b =
      by_test (λ (p : Proved). p.code ≢ 4) (key_came c marks b) (λ _. never (block_checks c g prn first m h b) tt)
      (λ _. never (refuse (neb (spare_bits c m b) 0) 12 ∷ []) tt)

  keys_four : (h : Held) (n : ℕ) → (keys_received c g prn m marks h n).code ≢ 4
  unfolding keys_received
  keys_four h zero = λ e. absurd (omega (arith, e))
  keys_four h (suc b) =
      by_number (λ (p : Proved). p.code ≢ 4) (keys_received c g prn m marks h b).code
      (λ _. block_four h.slot (keys_received c g prn m marks h b).held (suc b))
      (λ _. keys_four h b)

module _ (s : State) (prn t marks header : ℕ) (mack : List ℕ) where
  section_four : (section_proved s prn t marks header mack).code ≢ 4
  unfolding section_proved
  section_four =
      by_number (λ (p : Proved). p.code ≢ 4) (first_refusal (refuse (not (field_came marks 0)) 17 ∷ refuse (section_unfit s t header) 11 ∷ []))
      (λ _. keys_four (chain_of s) t prn mack marks (held_of s) (chain_of s).nmack)
      (λ _. never (refuse (not (field_came marks 0)) 17 ∷ refuse (section_unfit s t header) 11 ∷ []) tt)

  mack_half_lem : ((mack_half s prn t marks header mack).code ≢ 4) × ((mack_half s prn t marks header mack).state.config ≡ s.config)
  unfolding mack_half section_taken
  mack_half_lem =
      by_number (λ (d : MackDone). (d.code ≢ 4) × (d.state.config ≡ s.config)) (section_proved s prn t marks header mack).code
      (λ _. ((λ e. omega (arith, e)), refl))
      (λ _. (section_four, refl))

-- ---- sub-frame

-- the core is stopped after a sub-frame that gives r if a half was answered 4, else as before
abbrev Tells : State → SubframeTold → Type 0
Tells s r = stopped r.state.config ≡ cond (eqb r.hkroot 4 || eqb r.mack 4) true (stopped s.config)

module _ (s : State) (area : List ℕ) (x : Subframe) where
  abbrev first : HkrootDone
  first = hkroot_received (noted s x) x.time x.marks (hkroot_of (fields_of x) 15)

  abbrev second : MackDone
  second = mack_half first.state x.prn x.time x.marks (header_of (hkroot_of (fields_of x) 15)) (mack_of (fields_of x) 15)

  halves_tell : length s.config ≡ config_length → Tells s (halves_done (noted s x) area x)
  unfolding halves_done noted
  halves_tell l =
      let h = received_half (noted s x) x.time x.marks (hkroot_of (fields_of x) 15) in
      let m = mack_half_lem first.state x.prn x.time x.marks (header_of (hkroot_of (fields_of x) 15)) (mack_of (fields_of x) 15) in
      by_test (Tells s) first.stops
      (λ e. halted s.config first.state.config (eqb first.code 4) l (h.halts e))
      (λ e. rw (ne_eqb first.code 4 h.number, ne_eqb second.code 4 m.0) (ap stopped (m.1 ∙ h.goes e)))

  refused_four : first_refusal (subframe_checks s area x) ≡ 4 → stopped s.config ≡ true
  unfolding subframe_checks
  refused_four e =
      let last =
      refuse (ltb (stamp_of x.time) (last_subframe s.clocks) || leb (stamp_of x.time) (last_subframe_of s.clocks x.prn)) 3
      ∷ refuse (neb (fields_came x.marks 15) 0 && same (fields_of x) (replicate 75 0)) 5
      ∷ []
      in
      third (not (shaped s && (eqb (length area) area_length && eqb (length x.bytes) 75))) (not (prn_valid x.prn) || not (time_valid x.time)) (stopped s.config)
      (first_refusal last) (never last tt) e

  long : first_refusal (subframe_checks s area x) ≡ 0 → length s.config ≡ config_length
  unfolding subframe_checks
  long e =
      let c = clear (subframe_checks s area x) tt e in
      (sized s (and_left (shaped s) (eqb (length area) area_length && eqb (length x.bytes) 75)
      (not-false (shaped s && (eqb (length area) area_length && eqb (length x.bytes) 75)) c.0))).config

  pub subframe_stop : Tells s (subframe_call s area x)
  unfolding subframe_call noted
  subframe_stop =
      let code = first_refusal (subframe_checks s area x) in
      by_number (Tells s) code (λ e. halves_tell (long e))
      (λ _. by_test (λ (t : State). stopped t.config ≡ cond (eqb code 4 || eqb code 4) true (stopped s.config)) (eqb code 5)
      (λ _. twice code (stopped s.config) refused_four)
      (λ _. twice code (stopped s.config) refused_four))
