-- `call_word::take_word` meets its contract: refused, another type, or held.
use mathlib.Core.Path.{◌≡◌, refl, ap, sym, ◌∙◌}
use mathlib.Core.Bool.{true, false, ◌&&◌}
use lib.Dec.{eqb}
use lib.ListN.{length}
use Rattle.std.proofs.Common.{rules}
use Rattle.regions.specs.Told.{told}
use Rattle.rules.specs.Calls.{Word}
use Rattle.rules.specs.Navdata.{held_type}
use Rattle.rules.specs.State.{State, word_lent, word_shaped}
use Rattle.rules.specs.Times.{stamp_of}
use Rattle.call_word.proofs.Words.{refused, accepted, not-held, held, fits}
use Rattle.call_word.proofs.take_word.Goals as goal
use Rattle.call_word.proofs.take_word.Goals.{Start}

-- the state with the lent regions, and the word
abbrev lent : Start → State → State
lent c s = word_lent s c.args.config.now c.args.clocks.now c.args.words.now c.args.stamps.now

abbrev word : Start → Word
word c = record { prn = c.args.prn; time = c.args.time; bytes = c.args.bytes.now }

-- right lengths are those that row 1 asks for
fit : (c : Start) (s : State) → (word_shaped (lent c s) && eqb (length c.args.bytes.now) 16) ≡ true
fit c s =
    fits s c.args.config.now c.args.clocks.now c.args.words.now c.args.stamps.now c.args.bytes.now ((search rules, search rules), (search rules, (search rules, search rules)))

pub returns-in_err-word_refusal : goal.returns-in_err-word_refusal
returns-in_err-word_refusal c =
    let e : c.from_residual.result ≡ c.word_refusal.result = search rules in
    λ s.
    rw (e, c.in_err-word_refusal.was)
    (refused (lent (goal.at.returns-in_err-word_refusal c).Start s) (word (goal.at.returns-in_err-word_refusal c).Start) _ (c.in_err-word_refusal.ensures.0 _ refl refl (fit (goal.at.returns-in_err-word_refusal c).Start s)))

pub returns-then-held : goal.returns-then-held
unfolding stamp_of held_type
returns-then-held c =
    let h : held_type c.word_type-kind.result ≡ true = search rules in
    let k = c.word_type-kind.ensures in
    λ s.
    ap (told 0)
    (held s c.args.config.now c.args.clocks.now c.args.words.now c.args.stamps.now _ _ _ (word (goal.at.returns-then-held c).Start)
    (rw (← k) h)
    c.note_word.ensures
    (rw (← k) (rw c.index.ensures.0 at c.store_word.ensures)))
    ∙ accepted (lent (goal.at.returns-then-held c).Start s) (word (goal.at.returns-then-held c).Start) (c.in_ok-word_refusal.ensures.0 _ refl refl (fit (goal.at.returns-then-held c).Start s))

pub returns-else-held : goal.returns-else-held
unfolding held_type
returns-else-held c =
    let h : held_type c.word_type-kind.result ≡ false = search rules in
    let k = c.word_type-kind.ensures in
    λ s.
    ap (told 0) (sym (not-held (lent (goal.at.returns-else-held c).Start s) (word (goal.at.returns-else-held c).Start) (rw (← k) h)))
    ∙ accepted (lent (goal.at.returns-else-held c).Start s) (word (goal.at.returns-else-held c).Start) (c.in_ok-word_refusal.ensures.0 _ refl refl (fit (goal.at.returns-else-held c).Start s))
