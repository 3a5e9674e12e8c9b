-- `tag_codes::macseq_message` meets its contract: after j turns the front is the message of the first j fields.
use mathlib.Core.Path.{◌≡◌, sym, ap, ◌∙◌}
use Prim.Native.Nat.{ℕ, ◌+◌, ◌*◌, ◌≤◌}
use native.Mathlib.Omega.{arith}
use borrow.Author.Rules.{rules}
use lib.ListN.{length}
use Rattle.rules.specs.Tags.{macseq_message}
use Rattle.mack.specs.declared.Field.{Field}
use Rattle.mack.proofs.Places.{first_field}
use Rattle.tags.specs.Layout.{section}
use Rattle.tag_codes.proofs.Messages.{sender_in, info_in}
use Rattle.tag_codes.proofs.macseq_message.Goals as goal

pub overflow_mul-count : goal.overflow_mul-count
overflow_mul-count c = omega (arith, c.requires.few)

pub loop-j-init : goal.loop-j-init
loop-j-init c =
    let g = c.args in
    record {
      whole = search rules;
      place = sym (first_field g.c);
      room = omega arith;
      front = sender_in g.config.now g.c g.prn g.time g.mack.now g.out.now _ (rw (c.copy_from_slice.ensures.after, c.to_be_bytes.ensures));
    }

pub next_field-f-requires : goal.next_field-f-requires
next_field-f-requires c =
    (c.requires.fit, (c.loop-j.invariant.place, omega arith))

pub put_info-n-requires : goal.put_info-n-requires
put_info-n-requires c =
    (omega (arith, c.requires.few), omega (arith, c.requires.few))

pub loop-j-preserved : goal.loop-j-preserved
loop-j-preserved c =
    let g = c.args in
    let l = c.loop-j in
    let f = c.next_field-f.ensures in
    let p = c.put_info-n in
    let h : l.n + 2 ≤ length l.out = omega (arith, c.requires.few, l.invariant.whole) in
    let i = ap (λ (x : Field). x.info) f in
    let m = info_in g.config.now g.c g.prn g.time g.mack.now l.j l.n p.result _ l.out p.new.out h l.invariant.front i p.ensures.0 p.ensures.1 in
    record { whole = search rules; place = ap (λ (x : Field). x.next.used) f; room = omega arith; front = m.1 }

pub returns : goal.returns
returns c =
    let g = c.args in
    let l = c.loop-j in
    let h : l.j ≡ g.c.nmack * g.c.fields = omega arith in
    (l.invariant.front ∙ ap (λ (i : ℕ). macseq_message g.config.now g.c (section g.prn g.time 0 g.mack.now) i) h, omega (arith, c.requires.few))
