-- `mack_half::prove_keys` meets its contract: whichever key is kept, the section's keys are judged alike; on a long way it is one from which all tags
use mathlib.Core.Logic.{⊎_elim}
use mathlib.Core.Path.{sym, ◌∙◌}
use native.Mathlib.Omega.{arith}
use borrow.Author.Rules.{rules}
use Rattle.chain.proofs.Bounds.{sent_bound}
use Rattle.mack_half.proofs.prove_keys.Goals as goal

pub overflow_cast-c : goal.overflow_cast-c
overflow_cast-c c = omega (arith, c.requires.0.walks.nmack_high)

pub slot_to_keep-via-requires : goal.slot_to_keep-via-requires
slot_to_keep-via-requires c =
    let g = c.args in
    let w = c.requires.0.walks in
    ((w, (c.requires.1.0, rw c.sent_slot-last.ensures (sent_bound g.c g.time g.c.nmack g.prn w (search rules) (omega (arith, w.nmack_high))))), c.requires.1.1)

pub returns : goal.returns
returns c =
    let e = c.keys_proved.ensures in
    let b = c.slot_to_keep-via.ensures in
    let own = c.key_slot-own.ensures in
    let sent = c.sent_slot-last.ensures in (
      e.0,
      (
        e.1.0,
        (
          e.1.1.0,
          record {
            due = λ l w k n up due.
                let last = l ∙ sym sent in
                let high = b.1 (omega (arith, last)) in
                let top = high.1.0 k n (omega (arith, last)) in
                let near = e.1.1.1.0 (omega (arith, top)) (omega (arith, high.0, last)) in (
                  omega (arith, near, top),
                  ⊎_elim (λ z. absurd (omega (arith, z, top))) (λ t. record { place = t.place; waits = t.waits; slot_is = t.slot_is ∙ sym near }) high.1.1,
                );
            own = λ z k. (e.1.1.1.1 z k).own_is;
            last = λ z k short l m.
                let via = b.0 (rw (sent) short) ∙ own in
                (e.1.1.1.1 z k).passed (rw via l) (rw via m) ∙ via;
          },
        ),
      ),
    )
