-- Clocks and arrivals keep their lengths over every call: after an accepted start the question for four satellites is never refused.
-- Assumes nothing.
use mathlib.Core.Path.{◌≡◌, refl, ◌∙◌}
use mathlib.Core.Bool.{true}
use mathlib.Core.List.{List, [], ◌∷◌}
use Prim.Native.Nat.{ℕ, zero, suc, ◌*◌}
use native.Mathlib.Omega.{arith}
use lib.Dec.{eqb, leb}
use lib.ListN.{length, replicate, length-set, length-replicate}
use Rattle.laws.proofs.Refusal.{by_test}
use Rattle.laws.proofs.Splice.{length_splice}
use Rattle.laws.specs.Refusal.{first_refusal}
use Rattle.rules.specs.Bits.{any_of}
use Rattle.rules.specs.Calls.{Start, Word, Subframe, SubframeTold, HkrootDone, MackDone, start_call, start_checks, fresh, word_call, word_checks, word_taken, verdict_call, verdict_checks, subframe_call, subframe_checks, fields_of, halves_done, noted, hkroot_half, hkroot_received, store_done, kroot_done, pkr_done, mack_half, section_proved, section_taken, tags_worked, chain_of}
use Rattle.rules.specs.Candidates.{arrivals_with, candidates_cleared}
use Rattle.rules.specs.Chain.{Held}
use Rattle.rules.specs.Gather.{gathered, hkroot_of, mack_of, header_of, status_of, dsm_id_of}
use Rattle.rules.specs.Log.{Call, start, word, subframe, verdict, ask, step}
use Rattle.rules.specs.Navdata.{word_type, held_type}
use Rattle.rules.specs.Received.{fields_came, field_lost, field_judged, fields_judged}
use Rattle.rules.specs.State.{State, Nav, Auth, four_shaped, clocks_length, arrivals_length, satellites, waiting_count}
use Rattle.rules.specs.Tags.{Section, Work, names_satellite, told, told_agreed, told_plain, kept, entry_at, entry_tag, entry_set, is_due, due_judged, dues_judged, own_outcome, own_judged}
use Rattle.rules.specs.Verdict.{Verdict, judged_verdict, vouched, same_contents, chain_stays, candidates_at, message_header, message_contents}
use Rattle.rules.specs.declared.Chain.{Chain}
use Rattle.rules.specs.declared.Tag.{Tag}
use Rattle.rules.proofs.Choices.{by_number}

pub record Fits (s : State) : Type 0 where
  pub clocks : length s.clocks ≡ clocks_length
  pub arrivals : length s.auth.arrivals ≡ arrivals_length

pub fits_shaped : (s : State) → Fits s → four_shaped s ≡ true
unfolding four_shaped
fits_shaped s f = rw (f.clocks, f.arrivals)

-- ---- the tags of a section

abbrev Long : Work → Type 0
Long w = length w.arrivals ≡ arrivals_length

told_long : (ms found : ℕ) (t : Tag) (navdata : List ℕ) (w : Work) → Long w → Long (told ms found t navdata w)
unfolding told told_agreed told_plain arrivals_with
told_long ms found t navdata w h =
    by_test Long (eqb found 1)
    (λ _. by_test Long (names_satellite t) (λ _. simp length-set h) (λ _. h))
    (λ _. h)

module _ (c : Chain) (h : Held) where
  due_long : (e : List ℕ) (w : Work) → Long w → Long (due_judged c h e w)
  unfolding due_judged kept
  due_long e w l = by_test Long (is_due c h (entry_tag e)) (λ _. told_long c.ms _ (entry_tag e) (entry_set e) w l) (λ _. l)

  dues_long : (waiting : List ℕ) (n : ℕ) (w : Work) → Long w → Long (dues_judged c h waiting n w)
  unfolding dues_judged
  dues_long waiting zero w l = l
  dues_long waiting (suc n) w l = due_long (entry_at waiting n) (dues_judged c h waiting n w) (dues_long waiting n w l)

  module _ (config : List ℕ) (nav : Nav) (x : Section) where
    own_long : (j : ℕ) (w : Work) → Long w → Long (own_judged config nav c h x j w)
    unfolding own_judged kept
    own_long j w l =
        let n = own_outcome config nav c h x j w.count in
        let t = told_long c.ms n _ _ w l in
        by_test Long (eqb n 5) (λ _. t) (λ _. t)

    fields_long : (marks n : ℕ) (w : Work) → Long w → Long (fields_judged config nav c h x marks n w)
    unfolding fields_judged field_judged
    fields_long marks zero w l = l
    fields_long marks (suc j) w l =
        let v = fields_judged config nav c h x marks j w in
        let k = fields_long marks j w l in
        by_test Long (field_lost config c x.time marks j) (λ _. told_long c.ms 8 _ [] v k) (λ _. own_long j v k)

-- ---- the calls

start_fits : (x : Start) → Fits (fresh x)
unfolding fresh
start_fits x = record { clocks = length-replicate {A = ℕ} clocks_length 0; arrivals = length-replicate {A = ℕ} arrivals_length 0 }

pub accepted_fits : (s : State) (x : Start) → (start_call s x).code ≡ 0 → Fits (start_call s x).state
unfolding start_call
accepted_fits s x e = rw e (start_fits x)

noted_fits : (s : State) (x : Subframe) → Fits s → Fits (noted s x)
unfolding noted
noted_fits s x f = record { clocks = simp length-set f.clocks; arrivals = f.arrivals }

module _ (s : State) (f : Fits s) where
  same : (t : State) → t.clocks ≡ s.clocks → t.auth ≡ s.auth → Fits t
  same t c a = record { clocks = rw c f.clocks; arrivals = rw a f.arrivals }

  hkroot_fits : (t marks : ℕ) (hk : List ℕ) → Fits (hkroot_received s t marks hk).state
  unfolding hkroot_received hkroot_half store_done kroot_done pkr_done
  hkroot_fits t marks hk =
      let P : HkrootDone → Type 0 = λ d. Fits d.state in
      let g = gathered s.store t hk in
      by_test P (eqb (fields_came marks 15) 15)
      (λ _. by_test P (eqb (length g.dsm) 0) (λ _. same _ refl refl)
      (λ _. by_test P (leb (dsm_id_of hk) 11) (λ _. same _ refl refl) (λ _. same _ refl refl)))
      (λ _. f)

  mack_fits : (prn t marks header : ℕ) (mack : List ℕ) → Fits (mack_half s prn t marks header mack).state
  unfolding mack_half section_taken tags_worked
  mack_fits prn t marks header mack =
      let p = section_proved s prn t marks header mack in
      by_number (λ (d : MackDone). Fits d.state) p.code
      (λ _. record {
        clocks = f.clocks;
        arrivals = fields_long (chain_of s) p.held s.config s.nav _ marks ((chain_of s).nmack * (chain_of s).fields) _
            (dues_long (chain_of s) p.held s.tesla.waiting (waiting_count s.tesla.numbers) _ f.arrivals);
      })
      (λ _. f)

  cleared_fits : length (candidates_cleared s.auth).arrivals ≡ arrivals_length
  unfolding candidates_cleared
  cleared_fits =
      let z = length-replicate {A = ℕ} (2 * satellites) 0 in
      length_splice s.auth.arrivals satellites (replicate (2 * satellites) 0) (omega (arith, z, f.arrivals)) ∙ f.arrivals

  vouched_fits : (v : Verdict) → Fits (vouched s v)
  unfolding vouched candidates_at
  vouched_fits v =
      by_test Fits (eqb (status_of (message_header v.message)) 3)
      (λ _. record { clocks = f.clocks; arrivals = cleared_fits })
      (λ _. by_test Fits (same_contents s (message_contents v.message)) (λ _. same _ refl refl)
      (λ _. record {
        clocks = f.clocks;
        arrivals = by_test (λ (a : Auth). length a.arrivals ≡ arrivals_length) (chain_stays s (message_contents v.message)) (λ _. f.arrivals) (λ _. cleared_fits);
      }))

  verdict_fits : (v : Verdict) → Fits (verdict_call s v).state
  unfolding verdict_call judged_verdict
  verdict_fits v =
      let code = first_refusal (verdict_checks s v) in
      by_test Fits (any_of (eqb code 1 ∷ eqb code 2 ∷ eqb code 4 ∷ [])) (λ _. f)
      (λ _. by_number Fits code (λ _. vouched_fits v) (λ _. by_test Fits (eqb code 14) (λ _. f) (λ _. same _ refl refl)))

  word_fits : (w : Word) → Fits (word_call s w).state
  unfolding word_call word_taken
  word_fits w =
      by_number Fits (first_refusal (word_checks s w))
      (λ _. by_test Fits (held_type (word_type w.bytes)) (λ _. record { clocks = simp length-set f.clocks; arrivals = f.arrivals }) (λ _. f))
      (λ _. f)

  started_fits : (x : Start) → Fits (start_call s x).state
  unfolding start_call
  started_fits x = by_number Fits (first_refusal (start_checks s x)) (λ _. start_fits x) (λ _. f)

halves_fit : (s : State) (area : List ℕ) (x : Subframe) → Fits s → Fits (halves_done s area x).state
unfolding halves_done
halves_fit s area x f =
    let a = hkroot_received s x.time x.marks (hkroot_of (fields_of x) 15) in
    let h = hkroot_fits s f x.time x.marks (hkroot_of (fields_of x) 15) in
    by_test (λ (r : SubframeTold). Fits r.state) a.stops (λ _. h)
    (λ _. mack_fits a.state h x.prn x.time x.marks (header_of (hkroot_of (fields_of x) 15)) (mack_of (fields_of x) 15))

subframe_fits : (s : State) (area : List ℕ) (x : Subframe) → Fits s → Fits (subframe_call s area x).state
unfolding subframe_call
subframe_fits s area x f =
    let code = first_refusal (subframe_checks s area x) in
    by_number (λ (r : SubframeTold). Fits r.state) code (λ _. halves_fit (noted s x) area x (noted_fits s x f))
    (λ _. by_test Fits (eqb code 5) (λ _. noted_fits s x f) (λ _. f))

pub step_fits : (s : State) (c : Call) → Fits s → Fits (step s c).state
unfolding step
step_fits s (start x) f = started_fits s f x
step_fits s (word w) f = word_fits s f w
step_fits s (subframe area x) f = subframe_fits s area x f
step_fits s (verdict v) f = verdict_fits s f v
step_fits s (ask q) f = f
