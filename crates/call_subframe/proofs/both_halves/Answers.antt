-- `call_subframe::both_halves` meets its contract: a proved emergency message ends it, or the MACK half follows.
use mathlib.Core.Path.{◌≡◌, refl, ap, ◌∙◌}
use mathlib.Core.Bool.{false}
use mathlib.Core.List.{List}
use Rattle.std.specs.Prelude.{Ok}
use Prim.Native.Nat.{ℕ}
use Rattle.std.proofs.Common.{rules}
use Rattle.hkroot_half.specs.Done.{stops}
use Rattle.hkroot_half.specs.declared.Half.TheVariants.{Goes, Stops}
use Rattle.rules.specs.Calls.{hkroot_received}
use Rattle.rules.specs.Gather.{hkroot_of, mack_of, header_of}
use Rattle.rules.specs.Refusals.{answer_number, refusal_number}
use Rattle.rules.specs.State.{state}
use Rattle.regions.specs.Told.{subframe}
use Rattle.call_subframe.proofs.Subframes.{ends, goes_on}
use Rattle.call_subframe.proofs.both_halves.Goals as goal
use Rattle.call_subframe.proofs.both_halves.Goals.{After-mack_half-written, in-Ok-Goes, in-Err}

pub returns-in-Ok-Stops : goal.returns-in-Ok-Stops
returns-in-Ok-Stops c =
    let g = c.args in
    let h = c.hkroot_received-half in
    let stopping : h.result ≡ Ok Stops = search rules in
    λ clocks lent is.
    let s = state g.config.now clocks g.words.now g.stamps.now g.blocks.now g.headers.now g.present.now g.since.now g.pubkeys.now g.offer.now g.chain.now g.numbers.now g.heldkey.now g.waiting.now g.sets.now g.arrivals.now in
    ends s g.area.now (subframe g.prn g.time g.marks lent) h.result _ (h.ensures s refl refl refl refl ∙ ap (hkroot_received s g.time g.marks) (c.hkroot_of-hk.ensures ∙ ap (λ (f : List ℕ). hkroot_of f 15) is)) stopping

-- the HKROOT half's number, where it does not stop the core
passes : (c : After-mack_half-written) → (answer_number c.match-half.hkroot ≡ answer_number c.hkroot_received-half.result) × (stops c.hkroot_received-half.result ≡ false)
passes c =
    elim c.match-half.branch [
      | in-Ok-Goes w ↦ (rw (w.hkroot-is, w.in-Ok-Goes.is), let goes : c.hkroot_received-half.result ≡ Ok Goes = search rules in rw goes)
      | in-Err w ↦ (rw (w.hkroot-is, w.in-Err.is), rw w.in-Err.is)
    ]

pub returns-in-Ok : goal.returns-in-Ok
returns-in-Ok c =
    let g = c.args in
    let h = c.hkroot_received-half in
    λ clocks lent is.
    let s = state g.config.now clocks g.words.now g.stamps.now g.blocks.now g.headers.now g.present.now g.since.now g.pubkeys.now g.offer.now g.chain.now g.numbers.now g.heldkey.now g.waiting.now g.sets.now g.arrivals.now in
    let s' = state h.new.config clocks g.words.now g.stamps.now h.new.blocks h.new.headers h.new.present h.new.since h.new.pubkeys h.new.offer g.chain.now g.numbers.now g.heldkey.now g.waiting.now g.sets.now g.arrivals.now in
    goes_on s g.area.now (subframe g.prn g.time g.marks lent) h.result _ s' _ 0 c.in-Ok.count c.header_of.result c.mack_of-mack.result _
    (h.ensures s refl refl refl refl ∙ ap (hkroot_received s g.time g.marks) (c.hkroot_of-hk.ensures ∙ ap (λ (f : List ℕ). hkroot_of f 15) is)) (passes (goal.at.returns-in-Ok c).After-mack_half-written)
    (c.header_of.ensures ∙ ap header_of (c.hkroot_of-hk.ensures ∙ ap (λ (f : List ℕ). hkroot_of f 15) is)) (c.mack_of-mack.ensures ∙ ap (λ (f : List ℕ). mack_of f 15) is) (c.in-Ok.ensures.0 s' refl refl refl refl refl)

pub returns-in-Err-written : goal.returns-in-Err-written
returns-in-Err-written c =
    let g = c.args in
    let h = c.hkroot_received-half in
    λ clocks lent is.
    let s = state g.config.now clocks g.words.now g.stamps.now g.blocks.now g.headers.now g.present.now g.since.now g.pubkeys.now g.offer.now g.chain.now g.numbers.now g.heldkey.now g.waiting.now g.sets.now g.arrivals.now in
    let s' = state h.new.config clocks g.words.now g.stamps.now h.new.blocks h.new.headers h.new.present h.new.since h.new.pubkeys h.new.offer g.chain.now g.numbers.now g.heldkey.now g.waiting.now g.sets.now g.arrivals.now in
    goes_on s g.area.now (subframe g.prn g.time g.marks lent) h.result _ s' _ (refusal_number c.in-Err-written.refusal) 0 c.header_of.result c.mack_of-mack.result _
    (h.ensures s refl refl refl refl ∙ ap (hkroot_received s g.time g.marks) (c.hkroot_of-hk.ensures ∙ ap (λ (f : List ℕ). hkroot_of f 15) is)) (passes (goal.at.returns-in-Err-written c).After-mack_half-written)
    (c.header_of.ensures ∙ ap header_of (c.hkroot_of-hk.ensures ∙ ap (λ (f : List ℕ). hkroot_of f 15) is)) (c.mack_of-mack.ensures ∙ ap (λ (f : List ℕ). mack_of f 15) is) (c.in-Err-written.ensures.0 s' refl refl refl refl refl)
