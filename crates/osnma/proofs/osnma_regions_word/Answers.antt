-- `osnma::osnma_regions_word` meets its contract: a wrong length is refused, then the inner call's contract at the lent state.
use mathlib.Core.Path.{◌≡◌, sym}
use lib.ListN.{length}
use Rattle.std.proofs.Common.{rules}
use Rattle.rules.specs.Calls.{Word}
use Rattle.rules.specs.Replay.{blank_core}
use Rattle.rules.specs.State.{State, word_lent, word_shaped}
use Rattle.rules.proofs.Lengths.{WordSized, word_sized}
use Rattle.osnma.proofs.Lengths.{long_one, word_misfit}
use Rattle.osnma.proofs.osnma_regions_word.Goals as goal
use Rattle.osnma.proofs.osnma_regions_word.Goals.{After-word_shaped-shaped, Else-not-shaped-bytes, Start}

-- the word that is lent
abbrev word : Start → Word
word c = record { prn = c.args.prn; time = c.args.time; bytes = c.args.bytes.now }

-- the state with the lent regions
abbrev lent : Start → State → State
lent c s = word_lent s c.args.config.now c.args.clocks.now c.args.words.now c.args.stamps.now

shaped-is : (c : After-word_shaped-shaped) (s : State) → word_shaped (word_lent s c.args.config.now c.args.clocks.now c.args.words.now c.args.stamps.now) ≡ c.word_shaped-shaped.result
shaped-is c s = sym (c.word_shaped-shaped.ensures s)

-- every lent length is right
long : (c : Else-not-shaped-bytes) → WordSized (word_lent blank_core c.args.config.now c.args.clocks.now c.args.words.now c.args.stamps.now) × (length c.args.bytes.now ≡ 16)
long c =
    let s = word_lent blank_core c.args.config.now c.args.clocks.now c.args.words.now c.args.stamps.now in
    let l = long_one (word_shaped s) c.args.bytes.now 16 (rw (sym (c.word_shaped-shaped.ensures blank_core)) (c.if-not-shaped-bytes.false)) in
    (word_sized s l.0, l.1)

pub returns-then-not-shaped-bytes : goal.returns-then-not-shaped-bytes
returns-then-not-shaped-bytes c =
    λ s. rw c.number.ensures (word_misfit (lent (goal.at.returns-then-not-shaped-bytes c).Start s) (word (goal.at.returns-then-not-shaped-bytes c).Start) (rw (shaped-is (goal.at.returns-then-not-shaped-bytes c).After-word_shaped-shaped s) (c.if-not-shaped-bytes.true)))

pub unwrap-requires : goal.unwrap-requires
unwrap-requires c = c.as_array.ensures.variant.1 (long (goal.at.unwrap-requires c).Else-not-shaped-bytes).0.config

pub unwrap-requires-2 : goal.unwrap-requires-2
unwrap-requires-2 c = c.as_mut_array.ensures.variant.1 (long (goal.at.unwrap-requires-2 c).Else-not-shaped-bytes).0.clocks

pub unwrap-requires-3 : goal.unwrap-requires-3
unwrap-requires-3 c = c.as_mut_array-2.ensures.variant.1 (long (goal.at.unwrap-requires-3 c).Else-not-shaped-bytes).0.words

pub unwrap-requires-4 : goal.unwrap-requires-4
unwrap-requires-4 c = c.as_mut_array-3.ensures.variant.1 (long (goal.at.unwrap-requires-4 c).Else-not-shaped-bytes).0.stamps

pub returns : goal.returns
returns c =
    let a : c.unwrap.result.now ≡ c.args.config.now = search rules in
    let b : c.unwrap-2.result.now ≡ c.args.clocks.now = search rules in
    let d : c.unwrap-3.result.now ≡ c.args.words.now = search rules in
    let e : c.unwrap-4.result.now ≡ c.args.stamps.now = search rules in
    let f : c.unwrap-5.result.now ≡ c.args.bytes.now = search rules in
    λ s. rw c.answer_number.ensures (rw (a, b, d, e, f) at (c.take_word-taken.ensures s))
