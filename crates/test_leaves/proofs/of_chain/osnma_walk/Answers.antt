-- `test_leaves::of_chain::osnma_walk` meets its contract: each return is a case of the checks, and the last one walks.
use mathlib.Core.Path.{◌≡◌, sym, ap, ◌∙◌}
use mathlib.Core.Bool.{true}
use borrow.Author.Tests.{le-leb, leb-true}
use lib.Dec.{leb}
use Prim.Native.Nat.{ℕ, ◌+◌, ◌^◌}
use Rattle.rules.specs.Bits.{within}
use Rattle.test_leaves.specs.Numbers.{chain_of}
use Rattle.test_leaves.specs.Walk.{longest_key}
use Rattle.test_leaves.proofs.Checks.{refused, bad_ns, bad_nmack, bad_width, bad_root, bad_slots, walks, accepted}
use Rattle.test_leaves.proofs.of_chain.osnma_walk.Goals as goal
use Rattle.test_leaves.proofs.of_chain.osnma_walk.Goals.{After-longest_key-longest, Else-not-in_range, Else-not-in_range-2, Else-not-in_range-3, Else-not-slots_fit}

-- a check that was passed
ns-fits : (c : Else-not-in_range) → within 1 36 c.args.ns ≡ true
ns-fits c = sym c.in_range.ensures ∙ c.if-not-in_range.false

nmack-fits : (c : Else-not-in_range-2) → within 1 3 c.args.nmack ≡ true
nmack-fits c = sym c.in_range-2.ensures ∙ c.if-not-in_range-2.false

-- the longest key
longest : (c : After-longest_key-longest) → within 12 (longest_key c.args.hf) c.args.width ≡ within 12 c.longest_key-longest.result c.args.width
longest c = ap (λ (h : ℕ). within 12 h c.args.width) (sym c.longest_key-longest.ensures)

width_fits : (c : Else-not-in_range-3)
    → within 12 (longest_key c.args.hf) c.args.width ≡ true
width_fits c = ap (λ (h : ℕ). within 12 h c.args.width) (sym c.longest_key-longest.ensures) ∙ sym c.in_range-3.ensures ∙ c.if-not-in_range-3.false

slots-fit : (c : Else-not-slots_fit) → leb (c.args.m + c.args.n) (2 ^ 34) ≡ true
slots-fit c = sym c.slots_fit.ensures ∙ c.if-not-slots_fit.false

pub returns-then-not-in_range : goal.returns-then-not-in_range
returns-then-not-in_range c =
    let g = c.args in
    refused (chain_of g.ns g.nmack g.root g.alpha.now g.hf g.width) g.n g.m g.key.now
    (bad_ns g.hf g.ns g.nmack g.root g.width g.n g.m (sym c.in_range.ensures ∙ c.if-not-in_range.true))

pub returns-then-not-in_range-2 : goal.returns-then-not-in_range-2
returns-then-not-in_range-2 c =
    let g = c.args in
    refused (chain_of g.ns g.nmack g.root g.alpha.now g.hf g.width) g.n g.m g.key.now
    (bad_nmack g.hf g.ns g.nmack g.root g.width g.n g.m (ns-fits (goal.at.returns-then-not-in_range-2 c).Else-not-in_range) (sym c.in_range-2.ensures ∙ c.if-not-in_range-2.true))

pub returns-then-not-in_range-3 : goal.returns-then-not-in_range-3
returns-then-not-in_range-3 c =
    let g = c.args in
    refused (chain_of g.ns g.nmack g.root g.alpha.now g.hf g.width) g.n g.m g.key.now
    (bad_width g.hf g.ns g.nmack g.root g.width g.n g.m (ns-fits (goal.at.returns-then-not-in_range-3 c).Else-not-in_range) (nmack-fits (goal.at.returns-then-not-in_range-3 c).Else-not-in_range-2) (longest (goal.at.returns-then-not-in_range-3 c).After-longest_key-longest ∙ sym c.in_range-3.ensures ∙ c.if-not-in_range-3.true))

pub returns-then-root-ge8589934592 : goal.returns-then-root-ge8589934592
returns-then-root-ge8589934592 c =
    let g = c.args in
    refused (chain_of g.ns g.nmack g.root g.alpha.now g.hf g.width) g.n g.m g.key.now
    (bad_root g.hf g.ns g.nmack g.root g.width g.n g.m (ns-fits (goal.at.returns-then-root-ge8589934592 c).Else-not-in_range) (nmack-fits (goal.at.returns-then-root-ge8589934592 c).Else-not-in_range-2) (width_fits (goal.at.returns-then-root-ge8589934592 c).Else-not-in_range-3) (le-leb (2 ^ 33) g.root c.if-root-ge8589934592.true))

pub returns-then-not-slots_fit : goal.returns-then-not-slots_fit
returns-then-not-slots_fit c =
    let g = c.args in
    refused (chain_of g.ns g.nmack g.root g.alpha.now g.hf g.width) g.n g.m g.key.now
    (bad_slots g.hf g.ns g.nmack g.root g.width g.n g.m (ns-fits (goal.at.returns-then-not-slots_fit c).Else-not-in_range) (nmack-fits (goal.at.returns-then-not-slots_fit c).Else-not-in_range-2) (width_fits (goal.at.returns-then-not-slots_fit c).Else-not-in_range-3) c.if-root-ge8589934592.false
    (sym c.slots_fit.ensures ∙ c.if-not-slots_fit.true))

pub walk-requires : goal.walk-requires
walk-requires c =
    let g = c.args in (
      walks g.hf g.ns g.nmack g.root g.width g.n g.m (ns-fits (goal.at.walk-requires c).Else-not-in_range) (nmack-fits (goal.at.walk-requires c).Else-not-in_range-2) (width_fits (goal.at.walk-requires c).Else-not-in_range-3) c.if-root-ge8589934592.false g.alpha.now,
      leb-true (g.m + g.n) (2 ^ 34) (slots-fit (goal.at.walk-requires c).Else-not-slots_fit),
    )

pub returns : goal.returns
returns c =
    let g = c.args in
    accepted g.hf g.ns g.nmack g.root g.width g.n g.m (ns-fits (goal.at.returns c).Else-not-in_range) (nmack-fits (goal.at.returns c).Else-not-in_range-2) (width_fits (goal.at.returns c).Else-not-in_range-3) c.if-root-ge8589934592.false (slots-fit (goal.at.returns c).Else-not-slots_fit)
    g.alpha.now g.key.now _ c.walk.ensures
