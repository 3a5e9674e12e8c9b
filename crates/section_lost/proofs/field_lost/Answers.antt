-- `section_lost::field_lost` meets its contract: the tests are those of `field_lost`.
use mathlib.Core.Path.{◌≡◌, sym, ap, ◌∙◌}
use mathlib.Core.Bool.{true, false, not}
use Prim.Native.Nat.{◌+◌, ◌/◌}
use Rattle.rules.specs.Mack.{field_at}
use Rattle.rules.specs.Received.{key_came, tag_came, info_came}
use Rattle.rules.specs.Tags.{flexible}
use Rattle.section_lost.proofs.Lost.{lost_key, lost_tag, lost_macseq, first_whole, by_info, some_came, none_came}
use Rattle.section_lost.proofs.field_lost.Goals as goal
use Rattle.section_lost.proofs.field_lost.Goals.{Else-flexible, Else-not-key_came, In-Some}

key_in : (c : Else-not-key_came) → key_came c.args.c c.args.x.marks (c.args.j / c.args.c.fields + 1) ≡ true
key_in c = sym c.key_came.ensures ∙ c.if-not-key_came.false

tag_in : (c : In-Some) → tag_came c.args.c c.args.x.marks c.args.j ≡ true
unfolding tag_came
tag_in c =
    let g = c.args in
    some_came g.x.mack.now g.x.marks (field_at g.c g.j) g.c.ms _ _ c.tag_item.ensures c.in-Some.is

fixed : (c : Else-flexible) → flexible c.args.config.now c.args.x.time c.args.j ≡ false
fixed c = sym c.flexible.ensures ∙ c.if-flexible.false

pub returns-then-not-key_came : goal.returns-then-not-key_came
returns-then-not-key_came c m =
    let g = c.args in
    sym (lost_key g.config.now g.c g.x.time g.x.marks g.j (sym c.key_came.ensures ∙ c.if-not-key_came.true))

pub returns-in_default : goal.returns-in_default
unfolding tag_came
returns-in_default c m =
    let g = c.args in
    sym
    (lost_tag g.config.now g.c g.x.time g.x.marks g.j (key_in (goal.at.returns-in_default c).Else-not-key_came)
    (none_came g.x.mack.now g.x.marks (field_at g.c g.j) g.c.ms _ c.tag_item.ensures c.in_default.not-Some))

pub returns-then-flexible : goal.returns-then-flexible
returns-then-flexible c m =
    let g = c.args in
    let a = goal.at.returns-then-flexible c in
    ap not m
    ∙ sym (lost_macseq g.config.now g.c g.x.time g.x.marks g.j (key_in a.Else-not-key_came) (tag_in a.In-Some) (sym c.flexible.ensures ∙ c.if-flexible.true))

pub returns-then-j-eq0 : goal.returns-then-j-eq0
returns-then-j-eq0 c m =
    let g = c.args in
    let a = goal.at.returns-then-j-eq0 c in
    sym (first_whole g.config.now g.c g.x.time g.x.marks g.j (key_in a.Else-not-key_came) (tag_in a.In-Some) (fixed a.Else-flexible) c.if-j-eq0.true)

pub returns-in_default-info_item : goal.returns-in_default-info_item
unfolding info_came
returns-in_default-info_item c m =
    let g = c.args in
    let a = goal.at.returns-in_default-info_item c in
    sym
    (by_info g.config.now g.c g.x.time g.x.marks g.j (key_in a.Else-not-key_came) (tag_in a.In-Some) (fixed a.Else-flexible) c.if-j-eq0.false
    ∙ ap not (none_came g.x.mack.now g.x.marks (field_at g.c g.j + g.c.ms) 16 _ c.info_item.ensures c.in_default-info_item.not-Some))

pub returns : goal.returns
unfolding info_came
returns c m =
    let g = c.args in
    let a = goal.at.returns c in
    sym
    (by_info g.config.now g.c g.x.time g.x.marks g.j (key_in a.Else-not-key_came) (tag_in a.In-Some) (fixed a.Else-flexible) c.if-j-eq0.false
    ∙ ap not (some_came g.x.mack.now g.x.marks (field_at g.c g.j + g.c.ms) 16 _ _ c.info_item.ensures c.in-Some-info_item.is))
