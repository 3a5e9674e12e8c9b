-- The MACK half by its cases: its first field is missing (17), the section is refused (11), a key refuses it (13 or 12), or it is taken.
-- Assumes nothing.
use mathlib.Core.Path.{◌≡◌, refl, sym}
use mathlib.Core.Bool.{true, false}
use mathlib.Core.List.{List, []}
use Prim.Native.Nat.{ℕ, zero, suc, ◌*◌}
use lib.ListN.{length}
use Rattle.laws.specs.Lists.{splice}
use Rattle.laws.specs.Refusal.{unless}
use Rattle.laws.proofs.Splice.{splice_nil}
use Rattle.rules.specs.Calls.{MackDone, chain_of, held_of, section_unfit, section_proved, tags_worked, section_taken, mack_half}
use Rattle.rules.specs.Gather.{status_of}
use Rattle.rules.specs.Mack.{Proved}
use Rattle.rules.specs.Received.{field_came, keys_received}
use Rattle.rules.specs.State.{State, Tesla, Auth}
use Rattle.rules.specs.Tags.{Work}
use Rattle.tags.specs.Layout.{section}
use Rattle.mack_half.specs.Half.{judging, Gives}

-- the same regions are the same state
pub unjudged : (s : State) (t : Tesla) (a : Auth) → s.tesla ≡ t → s.auth ≡ a → judging s t a ≡ s
unjudged s t a et ea = rw (← et, ← ea)

module _ (s : State) (prn t marks header : ℕ) (mack area : List ℕ) where
  abbrev half : MackDone
  half = mack_half s prn t marks header mack

  -- 17
  pub missing : field_came marks 0 ≡ false → Gives half 17 0 s area area
  unfolding mack_half section_proved
  missing e = record { code_is = rw e; count_is = rw e; state_is = rw e; area_is = rw e (sym (splice_nil area 0)) }

  -- row 11
  pub refused : field_came marks 0 ≡ true → section_unfit s t header ≡ true → Gives half 11 0 s area area
  unfolding mack_half section_proved
  refused d e = record { code_is = rw (d, e); count_is = rw (d, e); state_is = rw (d, e); area_is = rw (d, e) (sym (splice_nil area 0)) }

  abbrev pub proved : Proved
  proved = keys_received (chain_of s) t prn mack marks (held_of s) (chain_of s).nmack

  abbrev pub work : Work
  work = tags_worked s proved.held (section prn t (status_of header) mack) marks

  pub by_code : (p : Proved) (w : Work) (n : ℕ) (s' : State) → (n ≡ 0 → ⊥) → n ≡ p.code
      → Gives (unless p.code (record { code = 0; records = w.records; state = s' }) (record { code = p.code; records = []; state = s })) n 0 s area area
  by_code p w zero s' h e = absurd (h refl)
  by_code p w (suc n) s' h e = record { code_is = rw (← e); count_is = rw (← e); state_is = rw (← e); area_is = rw (← e) (sym (splice_nil area 0)) }

  module _ (d : field_came marks 0 ≡ true) (f : section_unfit s t header ≡ false) where
    -- a key refuses it
    pub keys_refused : (n : ℕ) → (n ≡ 0 → ⊥) → n ≡ proved.code → Gives half n 0 s area area
    unfolding mack_half section_proved
    keys_refused n h e = rw (d, f) (by_code proved work n (section_taken s proved.held work) h e)

    -- it is taken
    pub taken : (count : ℕ) (s' : State) (area' : List ℕ) → 0 ≡ proved.code → length work.records ≡ count * 12 → s' ≡ section_taken s proved.held work
        → area' ≡ splice area 0 work.records → Gives half 0 count s' area area'
    unfolding mack_half section_proved
    taken count s' area' e l q a =
        rw (d, f) (record { code_is = rw (← e); count_is = rw (← e) l; state_is = rw (← e) q; area_is = rw (← e) a })
