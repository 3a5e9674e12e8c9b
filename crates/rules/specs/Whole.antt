-- The sub-frame call as 01 alone has it, before 02's P3: every field came, and no marks are read. `LostFields` says what P3 promises beside its
-- rules: with all marks 1 the call of Calls.antt is this one, and what is lent for a field that did not come changes nothing. proofs/Whole.antt shows
-- it.
use Rattle.std.specs.Prelude.{ℕ, ◌*◌, ◌/◌, ◌<◌, ◌≡◌, true, cond, not, ◌&&◌, ◌||◌, List, [], ◌∷◌, leb, ltb, eqb, length, replicate}
use Rattle.laws.specs.Lists.{part, splice}
use Rattle.laws.specs.Refusal.{Check, refuse, first_refusal, unless}
use Rattle.rules.specs.Bits.{same}
use Rattle.rules.specs.Calls.{MackDone, Subframe, SubframeTold, chain_of, held_of, section_unfit, section_taken, hkroot_half, noted, subframe_call}
use Rattle.rules.specs.Chain.{Held}
use Rattle.rules.specs.Gather.{hkroot_of, mack_of, header_of, status_of}
use Rattle.rules.specs.Mack.{keys_proved, Proved}
use Rattle.rules.specs.Received.{field_came, fields_came}
use Rattle.rules.specs.State.{State, shaped, stopped, last_subframe, last_subframe_of, prn_valid, waiting_count, area_length}
use Rattle.rules.specs.Tags.{Section, Work, dues_judged, owns_judged}
use Rattle.rules.specs.Times.{time_valid, stamp_of}

-- "section 11, then block by block 13, 12"
unfoldable pub whole_proved : State → ℕ → ℕ → ℕ → List ℕ → Proved
whole_proved s prn t header mack =
    let code = first_refusal (refuse (section_unfit s t header) 11 ∷ []) in
    unless code
    (keys_proved (chain_of s) t prn mack (held_of s) (chain_of s).nmack)
    (record { code = code; held = held_of s })

-- "All keys are checked first, then tags in order."
unfoldable pub whole_worked : State → Held → Section → Work
whole_worked s h x =
    let c = chain_of s in
    owns_judged s.config s.nav c h x (c.nmack * c.fields)
    (dues_judged c h s.tesla.waiting (waiting_count s.tesla.numbers)
    (record { kept = []; count = 0; sets = s.auth.sets; arrivals = s.auth.arrivals; records = [] }))

unfoldable pub whole_mack : State → ℕ → ℕ → ℕ → List ℕ → MackDone
whole_mack s prn t header mack =
    let p = whole_proved s prn t header mack in
    let w = whole_worked s p.held (record { prn = prn; time = t; status = status_of header; mack = mack }) in
    unless p.code
    (record { code = 0; records = w.records; state = section_taken s p.held w })
    (record { code = p.code; records = []; state = s })

-- "Checks go 1, 2, 4, 3, 5"
unfoldable pub whole_checks : State → List ℕ → Subframe → List Check
whole_checks s area x =
    refuse (not (shaped s && (eqb (length area) area_length && eqb (length x.bytes) 75))) 1
    ∷ refuse (not (prn_valid x.prn) || not (time_valid x.time)) 2
    ∷ refuse (stopped s.config) 4
    ∷ refuse (ltb (stamp_of x.time) (last_subframe s.clocks) || leb (stamp_of x.time) (last_subframe_of s.clocks x.prn)) 3
    ∷ refuse (same x.bytes (replicate 75 0)) 5
    ∷ []

-- "The HKROOT half goes before the MACK half."
unfoldable pub whole_halves : State → List ℕ → Subframe → SubframeTold
whole_halves s area x =
    let hk = hkroot_of x.bytes 15 in
    let a = hkroot_half s x.time hk in
    let m = whole_mack a.state x.prn x.time (header_of hk) (mack_of x.bytes 15) in
    cond a.stops
    (record { hkroot = a.code; mack = 4; count = 0; state = a.state; area = area })
    (record { hkroot = a.code; mack = m.code; count = length m.records / 12; state = m.state; area = splice area 0 m.records })

unfoldable pub whole_subframe : State → List ℕ → Subframe → SubframeTold
whole_subframe s area x =
    let code = first_refusal (whole_checks s area x) in
    unless code
    (whole_halves (noted s x) area x)
    (record { hkroot = code; mack = code; count = 0; state = cond (eqb code 5) (noted s x) s; area = area })

-- ---- what P3 promises

-- the fields that came are the same in both
abbrev pub Alike : ℕ → List ℕ → List ℕ → Type 0
Alike marks f g = (k : ℕ) → k < 15 → field_came marks k ≡ true → part f (5 * k) 5 ≡ part g (5 * k) 5

pub record LostFields : Type 0 where
  -- "With all marks 1 every answer equals the old one": numbers, count, records and regions
  pub whole : (s : State) (area : List ℕ) (x : Subframe) → fields_came x.marks 15 ≡ 15 → subframe_call s area x ≡ whole_subframe s area x
  -- bytes of a field that did not come are never looked at (B11): two calls that differ only in them give equal numbers, count, records and regions
  pub unseen : (s : State) (area : List ℕ) (prn time marks : ℕ) (f g : List ℕ) → length f ≡ length g → Alike marks f g
      → subframe_call s area (record { prn = prn; time = time; marks = marks; bytes = f }) ≡ subframe_call s area (record { prn = prn; time = time; marks = marks; bytes = g })
