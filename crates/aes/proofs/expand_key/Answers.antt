-- `aes::expand_key` meets its contract: before turn i the words below i stand, and zeros after them; x is the last of those words.
use mathlib.Core.Path.{◌≡◌, ap, ◌∙◌}
use Prim.Native.Nat.{◌*◌, ◌-◌}
use native.Mathlib.Omega.{arith}
use Rattle.laws.specs.Lists.{splice}
use Rattle.aes.specs.Aes as S
use Rattle.aes.specs.Steps as C
use Rattle.aes.proofs.Keys.{next_is, last_word, grown, all_words}
use Rattle.aes.proofs.expand_key.Goals as goal

pub loop-i-init : goal.loop-i-init
loop-i-init c =
    let d : 0 ≡ c.words_of-nk.result - c.words_of-nk.result = omega arith in
    (c.lay_key.ensures ∙ ap (C.filled c.words_of-nk.result (S.key_bytes c.args.key.now)) d, c.word_at-x.ensures)

pub loop-i-preserved : goal.loop-i-preserved
loop-i-preserved c =
    let l = c.loop-i in
    let nk = c.words_of-nk.result in
    let p = c.put_u32.ensures in
    let n = next_is l.w nk l.i _ l.x _ c.word_at.ensures l.invariant.1 c.temp.ensures in
    (grown c.args.key.now l.w _ nk l.i c.words_of-nk.ensures.0 (omega arith) l.invariant.0 (p ∙ ap (splice l.w (4 * l.i)) n), last_word l.w _ l.i _ (omega arith) p)

pub returns : goal.returns
returns c =
    let l = c.loop-i in
    all_words c.args.key.now l.w c.words_of-nk.result l.i c.words_of-nk.ensures.0 (omega arith) (omega arith) l.invariant.0
