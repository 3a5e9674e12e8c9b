-- `mack_half::judge_section` meets its contract: refused by a key, or taken.
use mathlib.Core.Path.{◌≡◌, sym, ap, ◌∙◌}
use native.Mathlib.Omega.{arith}
use Rattle.std.proofs.lemmas.Result.{err_from_is_err_and}
use Rattle.regions.proofs.Faults.{refusal_above_0}
use Rattle.rules.specs.Refusals.{answer_number, refusal_number}
use Rattle.chain.specs.Sound.{Sound}
use Rattle.tags.specs.Layout.{Laid}
use Rattle.mack_half.proofs.Taken.{keys_by, taken_by}
use borrow.Author.Rules.{rules}
use Rattle.mack_half.proofs.judge_section.Goals as goal
use Rattle.mack_half.proofs.judge_section.Goals.{After-chain_of-c}

fits : (c : After-chain_of-c) → Sound c.chain_of-c.result × Laid c.chain_of-c.result
fits c = c.chain_of-c.ensures.1 c.requires

pub held_key-key-requires : goal.held_key-key-requires
held_key-key-requires c =
    (fits (goal.at.held_key-key-requires c).After-chain_of-c).0.walks.width_high

pub prove_keys-p-requires : goal.prove_keys-p-requires
prove_keys-p-requires c =
    ((fits (goal.at.prove_keys-p-requires c).After-chain_of-c).0, (c.held_slot-slot.ensures.1, c.waiting_count-n.ensures.1))

-- a key refuses the section
pub returns-in_err-p : goal.returns-in_err-p
returns-in_err-p c =
    let g = c.args in
    let e = c.in_err-p.field-0.0 in
    let k : answer_number c.prove_keys-p.result.judged ≡ refusal_number e = ap answer_number c.in_err-p.was in
    let p = err_from_is_err_and c.from_residual.result c.from_residual.ensures.1 in
    rw (p.1, p.2) (
      λ s ec en eh et ea d f.
          keys_by s c.chain_of-c.result g.config.now g.words.now g.stamps.now g.chain.now g.numbers.now g.heldkey.now g.waiting.now g.sets.now g.arrivals.now
          c.held_key-key.result g.mack.now c.held_slot-slot.result c.waiting_count-n.result g.prn g.time g.marks
          ec en eh et ea c.chain_of-c.ensures.0 c.held_slot-slot.ensures.0 c.waiting_count-n.ensures.0 c.held_key-key.ensures (fits (goal.at.returns-in_err-p c).After-chain_of-c).0.walks.width_high (search rules)
          g.header g.area.now d f _ (refusal_above_0 e) (sym k ∙ c.prove_keys-p.ensures.0.code_is),
      omega arith,
    )

pub judge_tags-w-requires : goal.judge_tags-w-requires
judge_tags-w-requires c =
    ((fits (goal.at.judge_tags-w-requires c).After-chain_of-c, (c.prove_keys-p.ensures.1.0, c.waiting_count-n.ensures.1)), c.prove_keys-p.ensures.1.1.0)

pub returns : goal.returns
returns c =
    let g = c.args in (
      λ s ec en eh et ea d f.
          taken_by s c.chain_of-c.result g.config.now g.words.now g.stamps.now g.chain.now g.numbers.now g.heldkey.now g.waiting.now g.sets.now g.arrivals.now
          c.held_key-key.result g.mack.now c.held_slot-slot.result c.waiting_count-n.result g.prn g.time g.marks
          ec en eh et ea c.chain_of-c.ensures.0 c.held_slot-slot.ensures.0 c.waiting_count-n.ensures.0 c.held_key-key.ensures (fits (goal.at.returns c).After-chain_of-c).0.walks.width_high (search rules)
          g.header g.area.now d f _ _ _ c.prove_keys-p.ensures.0
          c.status_of.result c.judge_tags-w.result.records c.judge_tags-w.result.kept _ _ _ _ _ _ (ap answer_number c.in_ok-p.was) c.status_of.ensures
          c.judge_tags-w.ensures.0 c.judge_tags-w.ensures.1.0 c.hold.ensures.0 c.hold.ensures.1,
      c.judge_tags-w.ensures.1.1,
    )
