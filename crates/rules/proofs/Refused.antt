-- A refused call, or a refused half of one, changes no public key, no chain, no held key and no authentic set: of every state.
-- Each effect stands behind `unless` or `cond`, so the proof follows their branches. Assumes nothing.
use Prim.Native.Nat.{ℕ, zero, suc}
use mathlib.Core.Path.{◌≡◌, refl}
use mathlib.Core.Logic.{◌≢◌}
use mathlib.Core.Bool.{false, cond}
use mathlib.Core.List.{List, [], ◌∷◌}
use lib.Dec.{eqb, leb}
use lib.ListN.{length}
use Rattle.laws.specs.Refusal.{first_refusal, unless}
use Rattle.laws.proofs.Refusal.{by_test, unless_refused}
use Rattle.rules.specs.Bits.{any_of}
use Rattle.rules.specs.Calls.{Start, Word, Subframe, SubframeTold, HkrootDone, MackDone, start_call, start_checks, word_call, word_checks, verdict_call, verdict_checks, subframe_call, subframe_checks, fields_of, halves_done, noted, hkroot_half, hkroot_received, store_done, kroot_done, pkr_done, mack_half, section_proved}
use Rattle.rules.specs.Claim.{Kept, Refused, between}
use Rattle.rules.specs.Gather.{gathered, hkroot_of, mack_of, header_of, dsm_id_of}
use Rattle.rules.specs.Log.{Question, start, word, subframe, verdict, ask, step}
use Rattle.rules.specs.Pkr.{Renewed, pkr_judged, pkr_checks}
use Rattle.rules.specs.Received.{fields_came}
use Rattle.rules.specs.State.{State, Store, tree_root}
use Rattle.rules.specs.Verdict.{Verdict, judged_verdict, trusting}
use Rattle.rules.proofs.Choices.{by_number}

same_kept : (s : State) → Kept s s
same_kept s = record { config = refl; pubkeys = refl; chain = refl; slot = refl; key = refl; auth = refl }

-- ---- start, word, reads

pub start-kept : (s : State) (x : Start) → (step s (start x)).reply.code ≢ 0 → (step s (start x)).state ≡ s
unfolding step start_call
start-kept s x h = unless_refused (first_refusal (start_checks s x)) _ s h

pub word_kept : (s : State) (w : Word) → (step s (word w)).reply.code ≢ 0 → (step s (word w)).state ≡ s
unfolding step word_call
word_kept s w h = unless_refused (first_refusal (word_checks s w)) _ s h

pub ask_kept : (s : State) (q : Question) → (step s (ask q)).state ≡ s
unfolding step
ask_kept s q = refl

-- ---- verdict: all stays, or what waits is dropped

-- P of the state as it was and without what waits
pub verdict_refused : (P : State → Type 0) (s : State) (v : Verdict) → P s → P (trusting s s.pubkeys s.chain s.tesla) → (step s (verdict v)).reply.code ≢ 0 → P (step s (verdict v)).state
unfolding step verdict_call judged_verdict
verdict_refused P s v whole dropped h =
    let code = first_refusal (verdict_checks s v) in
    by_test P (any_of (eqb code 1 ∷ eqb code 2 ∷ eqb code 4 ∷ [])) (λ _. whole)
    (λ _. by_number P code (λ z. absurd (h z)) (λ _. by_test P (eqb code 14) (λ _. whole) (λ _. dropped)))

verdict_kept : (s : State) (v : Verdict) → (step s (verdict v)).reply.code ≢ 0 → Kept s (step s (verdict v)).state
verdict_kept s v =
    verdict_refused (Kept s) s v (same_kept s) (record { config = refl; pubkeys = refl; chain = refl; slot = refl; key = refl; auth = refl })

-- ---- the halves

pub mack_half_kept : (s : State) (prn t marks header : ℕ) (mack : List ℕ) → (mack_half s prn t marks header mack).code ≢ 0 → (mack_half s prn t marks header mack).state ≡ s
unfolding mack_half
mack_half_kept s prn t marks header mack =
    by_number (λ (m : MackDone). m.code ≢ 0 → m.state ≡ s) (section_proved s prn t marks header mack).code (λ _ h. absurd (h refl)) (λ _ _. refl)

-- a refused DSM-PKR adds no key and does not stop the core
pub pkr_refused : (keys root d : List ℕ) → (pkr_judged keys root d).code ≢ 0 → ((pkr_judged keys root d).pubkeys ≡ keys) × ((pkr_judged keys root d).stops ≡ false)
unfolding pkr_judged
pkr_refused keys root d =
    by_number (λ (j : Renewed). j.code ≢ 0 → (j.pubkeys ≡ keys) × (j.stops ≡ false)) (first_refusal (pkr_checks keys root d)) (λ _ h. absurd (h refl)) (λ _ _. (refl, refl))

pkr_done-kept : (s : State) (store : Store) (d : List ℕ) → (pkr_done s store d).code ≢ 0 → Kept s (pkr_done s store d).state
unfolding pkr_done
pkr_done-kept s store d h =
    let p = pkr_refused s.pubkeys (tree_root s.config) d h in
    record { config = rw p.1 refl; pubkeys = p.0; chain = refl; slot = refl; key = refl; auth = refl }

hkroot_half_kept : (s : State) (t : ℕ) (hk : List ℕ) → (hkroot_half s t hk).code ≢ 0 → Kept s (hkroot_half s t hk).state
unfolding hkroot_half store_done kroot_done
hkroot_half_kept s t hk =
    let P : HkrootDone → Type 0 = λ a. a.code ≢ 0 → Kept s a.state in
    let g = gathered s.store t hk in
    by_test P (eqb (length g.dsm) 0)
    (λ _ _. record { config = refl; pubkeys = refl; chain = refl; slot = refl; key = refl; auth = refl })
    (λ _.
    by_test P (leb (dsm_id_of hk) 11)
    (λ _ _. record { config = refl; pubkeys = refl; chain = refl; slot = refl; key = refl; auth = refl })
    (λ _. pkr_done-kept s g.store g.dsm))

received-kept : (s : State) (t marks : ℕ) (hk : List ℕ) → (hkroot_received s t marks hk).code ≢ 0 → Kept s (hkroot_received s t marks hk).state
unfolding hkroot_received
received-kept s t marks hk =
    by_test (λ (a : HkrootDone). a.code ≢ 0 → Kept s a.state) (eqb (fields_came marks 15) 15) (λ _. hkroot_half_kept s t hk) (λ _ _. same_kept s)

-- ---- sub-frame: noting its time changes only clocks

noted_first : (s s' : State) (x : Subframe) → Kept (noted s x) s' → Kept s s'
unfolding noted
noted_first s s' x k = record { config = k.config; pubkeys = k.pubkeys; chain = k.chain; slot = k.slot; key = k.key; auth = k.auth }

noted-kept : (s : State) (x : Subframe) → Kept s (noted s x)
noted-kept s x = noted_first s (noted s x) x (same_kept (noted s x))

halves_hkroot : (s : State) (area : List ℕ) (x : Subframe) → (halves_done s area x).hkroot ≢ 0 → Kept s (hkroot_received s x.time x.marks (hkroot_of (fields_of x) 15)).state
unfolding halves_done
halves_hkroot s area x =
    let a = hkroot_received s x.time x.marks (hkroot_of (fields_of x) 15) in
    by_test (λ (r : SubframeTold). r.hkroot ≢ 0 → Kept s a.state) a.stops
    (λ _ h. received-kept s x.time x.marks (hkroot_of (fields_of x) 15) h)
    (λ _ h. received-kept s x.time x.marks (hkroot_of (fields_of x) 15) h)

halves_mack : (s : State) (area : List ℕ) (x : Subframe) → (halves_done s area x).mack ≢ 0 → (halves_done s area x).state ≡ (hkroot_received s x.time x.marks (hkroot_of (fields_of x) 15)).state
unfolding halves_done
halves_mack s area x =
    let hk = hkroot_of (fields_of x) 15 in
    let a = hkroot_received s x.time x.marks (hkroot_of (fields_of x) 15) in
    by_test (λ (r : SubframeTold). r.mack ≢ 0 → r.state ≡ a.state) a.stops
    (λ _ _. refl)
    (λ _ h. mack_half_kept a.state x.prn x.time x.marks (header_of hk) (mack_of (fields_of x) 15) h)

-- the sub-frame's answer, and the state between its halves, by the number of its own checks
abbrev after : State → List ℕ → Subframe → ℕ → SubframeTold
after s area x n =
    unless n (halves_done (noted s x) area x) (record { hkroot = n; mack = n; count = 0; state = cond (eqb n 5) (noted s x) s; area = area })

abbrev middle : State → Subframe → ℕ → State
middle s x n = unless n (hkroot_received (noted s x) x.time x.marks (hkroot_of (fields_of x) 15)).state (cond (eqb n 5) (noted s x) s)

hkroot_kept : (s : State) (area : List ℕ) (x : Subframe) → (step s (subframe area x)).reply.code ≢ 0 → Kept s (between s area x)
unfolding step subframe_call
hkroot_kept s area x = go (first_refusal (subframe_checks s area x))
  where
    go : (n : ℕ) → (after s area x n).hkroot ≢ 0 → Kept s (middle s x n)
    go zero h = noted_first s _ x (halves_hkroot (noted s x) area x h)
    go (suc n) h = by_test (Kept s) (eqb (suc n) 5) (λ _. noted-kept s x) (λ _. same_kept s)

mack_kept : (s : State) (area : List ℕ) (x : Subframe) → (step s (subframe area x)).reply.mack ≢ 0 → (step s (subframe area x)).state ≡ between s area x
unfolding step subframe_call
mack_kept s area x = go (first_refusal (subframe_checks s area x))
  where
    go : (n : ℕ) → (after s area x n).mack ≢ 0 → (after s area x n).state ≡ middle s x n
    go zero h = halves_mack (noted s x) area x h
    go (suc n) h = refl

pub refused : Refused
refused =
    record {
      start = start-kept;
      word = word_kept;
      verdict = verdict_kept;
      hkroot = hkroot_kept;
      mack = mack_kept;
      ask = ask_kept;
    }
