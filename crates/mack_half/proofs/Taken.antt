-- A section whose keys are judged over the lent regions: what the code reads of them is what the rule reads of the state, and what it leaves
-- there is what the rule leaves.
-- Assumes nothing.
use mathlib.Core.Path.{◌≡◌, sym, ap, ◌∙◌}
use mathlib.Core.Bool.{true, false}
use mathlib.Core.List.{List, [], ◌∷◌}
use Prim.Native.Nat.{ℕ, ◌-◌, ◌*◌, ◌≤◌}
use native.Mathlib.Omega.{arith}
use lib.ListN.{length, take, replicate}
use lib.Seq.{take_at, drop_at, length-take-le}
use Rattle.laws.specs.Lists.{splice}
use Rattle.rules.specs.Bits.{filled}
use Rattle.rules.specs.Calls.{chain_of, held_of, section_unfit, tags_worked, section_taken, mack_half}
use Rattle.rules.specs.Chain.{Held, held}
use Rattle.rules.specs.Gather.{status_of}
use Rattle.rules.specs.Kroot.{chain_with, chain_contents}
use Rattle.rules.specs.Mack.{Proved}
use Rattle.rules.specs.Received.{field_came, keys_received, fields_judged}
use Rattle.rules.specs.State.{State, ns_of, held_slot, waiting_count}
use Rattle.rules.specs.Tags.{Work, dues_judged}
use Rattle.rules.specs.declared.Chain.{Chain}
use Rattle.authentic_sets.specs.Regions.{auth}
use Rattle.chain.proofs.Steps.{front_splice}
use Rattle.mack_keys.specs.Keys.{Hands}
use Rattle.mack_keys.proofs.Judged.{length_proved}
use Rattle.navdata.specs.Pieces.{nav}
use Rattle.tag_records.specs.Told.{start, Leaves}
use Rattle.tags.specs.Layout.{section}
use Rattle.mack_half.specs.Half.{tesla, judging, Gives}
use Rattle.mack_half.proofs.Sections.{unjudged, keys_refused, taken}

-- a key before its zeros
take-filled : (n w : ℕ) (l : List ℕ) → length l ≡ w → take w (filled n l) ≡ l
unfolding filled
take-filled n w l e = take_at l (replicate (n - length l) 0) w e

-- another key of the same width in its place
key_again : (l k : List ℕ) (w : ℕ) → length l ≡ w → length k ≡ w → splice (filled 32 l) 0 k ≡ filled 32 k
unfolding filled splice
key_again l k w e f = rw (drop_at l (replicate (32 - length l) 0) (length k) (e ∙ sym f), e, f)

-- the regions at exit are those of a taken section
state_left : (s : State) (h : Held) (d : Work) (numbers' heldkey' waiting' sets' arrivals' : List ℕ) → numbers' ≡ h.slot ∷ d.count ∷ [] → heldkey' ≡ filled 32 h.key
    → waiting' ≡ splice s.tesla.waiting 0 d.kept → sets' ≡ d.sets → arrivals' ≡ d.arrivals
    → judging s (tesla numbers' heldkey' waiting') (auth sets' arrivals') ≡ section_taken s h d
unfolding section_taken
state_left s h d numbers' heldkey' waiting' sets' arrivals' a b e f g = rw (a, b, e, f, g)

module _ (s : State) (c : Chain) (config words stamps chain numbers heldkey waiting sets arrivals key mack : List ℕ) (slot n prn t marks : ℕ)
    (ec : s.config ≡ config) (en : s.nav ≡ nav words stamps) (eh : s.chain ≡ chain) (et : s.tesla ≡ tesla numbers heldkey waiting)
    (ea : s.auth ≡ auth sets arrivals) (c-is : c ≡ chain_with (ns_of config) (chain_contents chain)) (slot_is : slot ≡ held_slot numbers)
    (n-is : n ≡ waiting_count numbers) (key_is : key ≡ filled 32 (take c.width heldkey)) (w : c.width ≤ 32) (long : length heldkey ≡ 32) where
  same_chain : chain_of s ≡ c
  unfolding chain_of
  same_chain = rw (ec, eh) (sym c-is)

  key_long : length (take c.width heldkey) ≡ c.width
  key_long = length-take-le c.width heldkey (omega (arith, w, long))

  key_front : take c.width key ≡ take c.width heldkey
  key_front = ap (take c.width) key_is ∙ take-filled 32 c.width (take c.width heldkey) key_long

  same_held : held_of s ≡ held slot (take c.width key)
  unfolding held_of
  same_held = rw (same_chain, et, slot_is, key_front)

  abbrev p : Proved
  p = keys_received c t prn mack marks (held slot (take c.width key)) c.nmack

  same_proved : keys_received (chain_of s) t prn mack marks (held_of s) (chain_of s).nmack ≡ p
  same_proved = rw (same_held, same_chain)

  module _ (header : ℕ) (area : List ℕ) (d : field_came marks 0 ≡ true) (f : section_unfit s t header ≡ false) where
    pub keys_by : (code : ℕ) → (code ≡ 0 → ⊥) → code ≡ p.code → Gives (mack_half s prn t marks header mack) code 0 (judging s (tesla numbers heldkey waiting) (auth sets arrivals)) area area
    keys_by code h e =
        rw (unjudged s (tesla numbers heldkey waiting) (auth sets arrivals) et ea)
        (keys_refused s prn t marks header mack area d f code h (e ∙ ap (λ (q : Proved). q.code) (sym same_proved)))

    module _ (code slot' : ℕ) (key' : List ℕ) (hands : Hands p code slot' key key') where
      proved_width : length p.held.key ≡ c.width
      proved_width = length_proved c t prn mack marks (held slot (take c.width key)) c.nmack (rw key_front key_long)

      -- what the code holds then is what was proved
      held_is : held slot' (take c.width key') ≡ p.held
      held_is = rw (hands.slot_is, hands.key_is, front_splice key p.held.key c.width proved_width)

      key_filled : key' ≡ filled 32 p.held.key
      key_filled = hands.key_is ∙ (ap (λ (k : List ℕ). splice k 0 p.held.key) key_is ∙ key_again (take c.width heldkey) p.held.key c.width key_long proved_width)

      abbrev done : Work
      done = fields_judged config (nav words stamps) c p.held (section prn t (status_of header) mack) marks (c.nmack * c.fields)
          (dues_judged c p.held waiting n (start 0 sets arrivals))

      same_work : tags_worked s p.held (section prn t (status_of header) mack) marks ≡ done
      unfolding tags_worked
      same_work = rw (same_chain, ec, en, et, ea, n-is)

      pub taken_by : (status count kept : ℕ) (numbers' heldkey' waiting' sets' arrivals' area' : List ℕ) → code ≡ 0 → status ≡ status_of header
          → Leaves (fields_judged config (nav words stamps) c (held slot' (take c.width key')) (section prn t status mack) marks (c.nmack * c.fields) (dues_judged c (held slot' (take c.width key')) waiting n (start 0 sets arrivals))) 0 0 waiting area waiting' sets' arrivals' area' kept
          → length (fields_judged config (nav words stamps) c (held slot' (take c.width key')) (section prn t status mack) marks (c.nmack * c.fields) (dues_judged c (held slot' (take c.width key')) waiting n (start 0 sets arrivals))).records ≡ count * 12
          → numbers' ≡ slot' ∷ kept ∷ [] → heldkey' ≡ key'
          → Gives (mack_half s prn t marks header mack) 0 count (judging s (tesla numbers' heldkey' waiting') (auth sets' arrivals')) area area'
      taken_by status count kept numbers' heldkey' waiting' sets' arrivals' area' z st l r en' ek' =
          let l₂ : Leaves done 0 0 waiting area waiting' sets' arrivals' area' kept = rw (held_is, st) at l in
          let r₂ : length done.records ≡ count * 12 = rw (held_is, st) at r in
          taken s prn t marks header mack area d f count (judging s (tesla numbers' heldkey' waiting') (auth sets' arrivals')) area'
          (sym z ∙ (hands.code_is ∙ ap (λ (q : Proved). q.code) (sym same_proved)))
          (rw (same_proved, same_work) r₂)
          (rw (same_proved, same_work)
          (state_left s p.held done numbers' heldkey' waiting' sets' arrivals'
          (en' ∙ rw (hands.slot_is, l₂.count)) (ek' ∙ key_filled) (rw et l₂.entries) l₂.sets l₂.arrivals))
          (rw (same_proved, same_work) l₂.records)
