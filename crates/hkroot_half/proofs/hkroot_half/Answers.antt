-- `hkroot_half::hkroot_half` meets its contract: stored, complete or refused, by the rule's cases.
use mathlib.Core.Path.{◌≡◌, refl}
use Prim.Native.Nat.{◌*◌}
use lib.ListN.{length}
use native.Mathlib.Omega.{arith}
use Rattle.laws.proofs.Splice.{length_part}
use Rattle.rules.specs.Gather.{dsm_id_of}
use Rattle.rules.specs.State.{blocks_length}
use Rattle.rules.specs.declared.Refusal.TheVariants.{BlockUnfit}
use Rattle.std.proofs.Common.{Ok, Err}
use Rattle.hkroot_half.specs.declared.Half.TheVariants.{Goes}
use Rattle.hkroot_half.proofs.Halves.{nothing-complete, one_complete}
use Rattle.hkroot_half.proofs.hkroot_half.Goals as goal

pub complete-requires : goal.complete-requires
complete-requires c = let q = rw c.in-Complete.is at c.gather.ensures.1 in (q.0, q.1)

pub returns-in-Stored : goal.returns-in-Stored
returns-in-Stored c = λ s ec es ek eo. nothing-complete s _ (Ok Goes) _ _ _ _ _ ec ek eo refl (rw es (rw c.in-Stored.is at c.gather.ensures.0))

pub returns-in-Complete : goal.returns-in-Complete
returns-in-Complete c = λ s ec es ek eo.
    let d = c.complete.ensures in
    let e = rw c.in-Complete.is at c.gather.ensures.0 in
    let q = rw c.in-Complete.is at c.gather.ensures.1 in
    let k : length c.gather.new.blocks ≡ blocks_length = omega arith in
    let n = c.in-Complete.n in
    let hk = c.args.hk.now in
    one_complete s _ _ _ _ _ (rw (length_part c.gather.new.blocks (dsm_id_of hk * 208) n (omega (arith, d.1, q.0, q.1, k))) (omega (arith, q.0))) (rw es e) (d.0 s _ ec ek eo)

pub returns-in-Refused : goal.returns-in-Refused
returns-in-Refused c = λ s ec es ek eo. nothing-complete s _ (Err BlockUnfit) _ _ _ _ _ ec ek eo refl (rw es (rw c.in-Refused.is at c.gather.ensures.0))
