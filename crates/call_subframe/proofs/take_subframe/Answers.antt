-- `call_subframe::take_subframe` meets its contract: refused, 75 zero bytes, or both halves done.
use mathlib.Core.Path.{◌≡◌, refl}
use mathlib.Core.Bool.{true, ◌&&◌}
use lib.Dec.{eqb}
use lib.ListN.{length}
use borrow.Author.Tests.{eq-eqb}
use Rattle.std.proofs.Common.{rules}
use Rattle.rules.specs.Calls.{Subframe}
use Rattle.rules.specs.State.{State, state, shaped, area_length}
use Rattle.rules.specs.declared.Refusal.TheVariants.{AllZero}
use Rattle.rules.proofs.Lengths.{all-shaped}
use Rattle.regions.specs.Told.{subframe}
use Rattle.call_subframe.proofs.Subframes.{refused, zero-bytes, accepted}
use Rattle.call_subframe.proofs.take_subframe.Goals as goal
use Rattle.call_subframe.proofs.take_subframe.Goals.{Start}

abbrev before : Start → State
before c = state c.args.config.now c.args.clocks.now c.args.words.now c.args.stamps.now c.args.blocks.now c.args.headers.now c.args.present.now c.args.since.now c.args.pubkeys.now c.args.offer.now c.args.chain.now c.args.numbers.now c.args.heldkey.now c.args.waiting.now c.args.sets.now c.args.arrivals.now

abbrev brought : Start → Subframe
brought c = subframe c.args.prn c.args.time c.args.marks c.args.bytes.now

-- every region has its length
fit : (c : Start) → (shaped (before c) && (eqb (length c.args.area.now) area_length && eqb (length c.args.bytes.now) 75)) ≡ true
fit c =
    rw (
      all-shaped (before c) (record { config = search rules; clocks = search rules; words = search rules; stamps = search rules; blocks = search rules; headers = search rules; present = search rules; since = search rules; pubkeys = search rules; offer = search rules; chain = search rules; numbers = search rules; heldkey = search rules; waiting = search rules; sets = search rules; arrivals = search rules }),
      eq-eqb (length c.args.area.now) area_length (search rules),
      eq-eqb (length c.args.bytes.now) 75 (search rules),
    )

pub returns-then-eq : goal.returns-then-eq
returns-then-eq c =
    let z : c.in-Err.refusal ≡ AllZero = search rules in
    rw z (zero-bytes (before (goal.at.returns-then-eq c).Start) c.args.area.now (brought (goal.at.returns-then-eq c).Start) _ (rw z at (c.in-Err.ensures.0 (before (goal.at.returns-then-eq c).Start) c.args.area.now c.args.bytes.now refl refl c.received-fields.ensures (fit (goal.at.returns-then-eq c).Start))) c.note_subframe-then-eq.ensures)

pub returns-else-eq : goal.returns-else-eq
returns-else-eq c =
    let f : c.in-Err.refusal ≡ AllZero → ⊥ = search rules in
    refused (before (goal.at.returns-else-eq c).Start) c.args.area.now (brought (goal.at.returns-else-eq c).Start) c.in-Err.refusal f (c.in-Err.ensures.0 (before (goal.at.returns-else-eq c).Start) c.args.area.now c.args.bytes.now refl refl c.received-fields.ensures (fit (goal.at.returns-else-eq c).Start))

pub returns-in-Ok : goal.returns-in-Ok
returns-in-Ok c =
    accepted (before (goal.at.returns-in-Ok c).Start) c.args.area.now (brought (goal.at.returns-in-Ok c).Start) _ _ (c.in-Ok.ensures.0 (before (goal.at.returns-in-Ok c).Start) c.args.area.now c.args.bytes.now refl refl c.received-fields.ensures (fit (goal.at.returns-in-Ok c).Start)) c.note_subframe.ensures
    (c.both_halves.ensures c.note_subframe.new.clocks c.args.bytes.now c.received-fields.ensures)
