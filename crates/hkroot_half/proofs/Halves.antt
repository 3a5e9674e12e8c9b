-- The HKROOT half by its cases: nothing complete, a complete DSM-KROOT, a complete DSM-PKR. Assumes nothing.
use mathlib.Core.Path.{◌≡◌, refl}
use mathlib.Core.Bool.{false, cond}
use mathlib.Core.List.{List, []}
use Prim.Native.Nat.{ℕ, ◌≤◌}
use lib.Dec.{leb}
use lib.ListN.{length, set}
use borrow.Author.Tests.{ne_eqb}
use native.Mathlib.Omega.{arith}
use Rattle.rules.specs.Calls.{HkrootDone, hkroot_half, hkroot_received, store_done, kroot_done, pkr_done}
use Rattle.rules.specs.Gather.{gathered, dsm_id_of, header_of}
use Rattle.rules.specs.Kroot.{kroot_judged}
use Rattle.rules.specs.Pkr.{pkr_judged}
use Rattle.rules.specs.Received.{fields_came}
use Rattle.rules.specs.declared.Refusal.{Refusal}
use Rattle.rules.specs.declared.Refusal.TheVariants.{FieldsMissing}
use Rattle.rules.specs.Refusals.{answer_number}
use Rattle.rules.specs.State.{State, Store, tree_root, stopped_at}
use Rattle.std.proofs.Common.{Result, Err}
use Rattle.hkroot_half.specs.Done.{done, gathering, stops}
use Rattle.hkroot_half.specs.declared.Half.{Half}

-- no DSM is complete
pub nothing-complete : (s : State) (t : ℕ) (h : Result Half Refusal) (hk config pubkeys offer : List ℕ) (left : Store) → s.config ≡ config → s.pubkeys ≡ pubkeys → s.offer ≡ offer → stops h ≡ false
    → record { code = answer_number h; store = left; dsm = [] } ≡ gathered s.store t hk → done h (gathering s config left pubkeys offer) ≡ hkroot_half s t hk
unfolding hkroot_half store_done
nothing-complete s t h hk config pubkeys offer left ec ek eo n e = rw (n, ← e, ec, ek, eo)

-- a DSM is complete: what is done with it is the half
pub one_complete : (s : State) (t : ℕ) (hk d : List ℕ) (left : Store) (x : HkrootDone) → 1 ≤ length d → record { code = 0; store = left; dsm = d } ≡ gathered s.store t hk → x ≡ cond (leb (dsm_id_of hk) 11) (kroot_done s left (header_of hk) d) (pkr_done s left d) → x ≡ hkroot_half s t hk
unfolding hkroot_half
one_complete s t hk d left x h e p = rw (← e, ne_eqb (length d) 0 (λ z. absurd (omega (arith, h, z)))) p

-- a DSM-KROOT: the waiting message may be another
pub kroot_done_lem : (s : State) (left : Store) (config pubkeys offer given d : List ℕ) (header : ℕ) (h : Result Half Refusal) → s.config ≡ config → s.pubkeys ≡ pubkeys → s.offer ≡ offer → stops h ≡ false
    → (answer_number h ≡ (kroot_judged pubkeys config offer header d).code) × (given ≡ (kroot_judged pubkeys config offer header d).offer) → done h (gathering s config left pubkeys given) ≡ kroot_done s left header d
unfolding kroot_done
kroot_done_lem s left config pubkeys offer given d header h ec ek eo n e = rw (n, e.0, e.1, ec, ek, eo)

-- a DSM-PKR: the public keys may be others, and the core may stop
pub pkr_done_lem : (s : State) (left : Store) (config pubkeys offer installed given d : List ℕ) (h : Result Half Refusal) → s.config ≡ config → s.pubkeys ≡ pubkeys → s.offer ≡ offer → answer_number h ≡ (pkr_judged pubkeys (tree_root config) d).code → stops h ≡ (pkr_judged pubkeys (tree_root config) d).stops → given ≡ (pkr_judged pubkeys (tree_root config) d).pubkeys → installed ≡ cond (pkr_judged pubkeys (tree_root config) d).stops (set config stopped_at 1) config → done h (gathering s installed left given offer) ≡ pkr_done s left d
unfolding pkr_done
pkr_done_lem s left config pubkeys offer installed given d h ec ek eo e f g i = rw (e, f, g, i, ec, ek, eo)

-- ---- fields that are missing

-- one is: all stays
pub missing : (s : State) (t marks n : ℕ) (hk config pubkeys offer : List ℕ) (left : Store) → s.config ≡ config → s.store ≡ left → s.pubkeys ≡ pubkeys → s.offer ≡ offer → n ≡ fields_came marks 15 → (n ≡ 15 → ⊥)
    → done (Err FieldsMissing) (gathering s config left pubkeys offer) ≡ hkroot_received s t marks hk
unfolding hkroot_received
missing s t marks n hk config pubkeys offer left ec es ek eo e h = rw (← e, ne_eqb n 15 h, ← ec, ← es, ← ek, ← eo) refl

-- none is
pub none_missing : (s : State) (t marks n : ℕ) (hk : List ℕ) (x : HkrootDone) → n ≡ fields_came marks 15 → n ≡ 15 → x ≡ hkroot_half s t hk → x ≡ hkroot_received s t marks hk
unfolding hkroot_received
none_missing s t marks n hk x e h q = rw (← e, h) q
