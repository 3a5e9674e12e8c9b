-- The worked run, computed: the calls of the log, oldest first, give that log. The section with the tags is taken apart, since a declaration may compute
-- only so much: that its three tags match is taken from Macs. Assumes nothing.
use Prim.Native.Nat.{ℕ, ◌-◌, ◌*◌, ◌/◌}
use mathlib.Core.Path.{◌≡◌, refl, ap, ◌∙◌}
use mathlib.Core.Bool.{cond}
use mathlib.Core.List.{List, [], ◌∷◌, ◌++◌}
use lib.Dec.{eqb}
use lib.ListN.{length}
use Rattle.laws.specs.Lists.{part, splice}
use Rattle.rules.specs.Calls.{start_call, section_taken}
use Rattle.rules.specs.Chain.{Held, held}
use Rattle.rules.specs.Claim.{Counted, Each, chain_by, section_of, between}
use Rattle.rules.specs.Log.{Call, History, Ran, Stepped, advanced, ran, ran_from, step}
use Rattle.rules.specs.Navdata.{word_stored}
use Rattle.rules.specs.Received.{field_judged, fields_judged}
use Rattle.rules.specs.State.{State, Nav}
use Rattle.rules.specs.Tags.{Work, told, kept, tag_entry, mac_bits, tag_message}
use Rattle.rules.specs.Times.{stamp_of}
use Rattle.rules.specs.declared.Tag.{Tag}
use Rattle.rules_examples.proofs.Macs.{macs}
use Rattle.rules_examples.proofs.Opened.{opened}
use Rattle.rules_examples.specs.SlowTag as Run

-- ---- a call among others

-- the calls behind a call c that gave r, where a is what those before it left
abbrev behind : Ran → Call → Stepped → List Call → Ran
behind a c r rest = ran r.state (advanced a.history c r.reply.code r.reply r.state) rest

ran_call : (s : State) (h : History) (before rest : List Call) (c : Call) (r : Stepped) → step (ran s h before).state c ≡ r → ran s h (before ++ (c ∷ rest)) ≡ behind (ran s h before) c r rest
unfolding ran
ran_call s h [] rest c r e = ap (λ (v : Stepped). ran v.state (advanced h c v.reply.code v.reply v.state) rest) e
ran_call s h (b ∷ before) rest c r e =
    ran_call (step s b).state (advanced h b (step s b).reply.code (step s b).reply (step s b).state) before rest c r e

-- ---- the section with the tags

-- the words of the old set
abbrev stored : ℕ → List ℕ → Nav → Nav
stored kind bytes n = word_stored n 1 kind bytes (stamp_of (Run.at 3540))

abbrev nav : Nav
nav =
    stored 5 (Run.word_of 5 5 0x11)
    (stored 4 (Run.word_four 5 0x11)
    (stored 3 (Run.word_of 3 5 0x11) (stored 2 (Run.word_of 2 5 0x11) (stored 1 (Run.word_of 1 5 0x11) (Run.began).nav))))

abbrev key : Held
key = held 1 Run.key1

-- field j, from 0, and the first n fields
abbrev field : ℕ → Work → Work
field j w = field_judged (Run.began).config nav (chain_by Run.begin Run.said) key (section_of Run.tag_section) 65535 j w

abbrev fields : ℕ → Work → Work
fields n w = fields_judged (Run.began).config nav (chain_by Run.begin Run.said) key (section_of Run.tag_section) 65535 n w

abbrev mac_of : Tag → ℕ
mac_of t = mac_bits 0 12 Run.key1 (tag_message t Run.old_set)

-- a tag whose MAC is this: it agrees with its set, or is wrong
abbrev found : Tag → ℕ → ℕ
found t mac = cond (eqb mac t.bits) 1 2

abbrev judged : Tag → ℕ → Work → Work
judged t outcome w =
    let told-w = told 12 outcome t Run.old_set w in
    cond (eqb outcome 5) (kept (tag_entry t Run.old_set) told-w) told-w

agrees : (j : ℕ) (t : Tag) (w : Work) → field j w ≡ judged t (found t (mac_of t)) w → mac_of t ≡ t.bits → found t t.bits ≡ 1 → field j w ≡ told 12 1 t Run.old_set w
agrees j t w is mac right = is ∙ ap (λ (n : ℕ). judged t n w) (ap (λ (m : ℕ). found t m) mac ∙ right)

three_judged : Each (λ (c : Counted). (w : Work) → field (c.tag.position - 1) w ≡ told 12 1 c.tag Run.old_set w) Run.first_three
unfolding opened
three_judged =
    ((λ w. agrees 2 _ w refl macs.0 refl), ((λ w. agrees 3 _ w refl macs.1.0 refl), ((λ w. agrees 4 _ w refl macs.1.1.0 refl), tt)))

abbrev agreeing : List Counted → Work → Work
agreeing [] w = w
agreeing (c ∷ cs) w = agreeing cs (told 12 1 c.tag Run.old_set w)

-- what the eight fields leave
abbrev none : Work
none = record { kept = []; count = 0; sets = (Run.began).auth.sets; arrivals = (Run.began).auth.arrivals; records = [] }

abbrev eight : Work
eight = field 7 (field 6 (field 5 (agreeing Run.first_three (field 1 (field 0 none)))))

eight_judged : fields 8 none ≡ eight
unfolding fields_judged
eight_judged =
    ap (λ (w : Work). field 7 (field 6 (field 5 (field 4 (field 3 w))))) (three_judged.0 _)
    ∙ ap (λ (w : Work). field 7 (field 6 (field 5 (field 4 w)))) (three_judged.1.0 _)
    ∙ ap (λ (w : Work). field 7 (field 6 (field 5 w))) (three_judged.1.1.0 _)

-- ---- the run

abbrev started : State
started = (start_call Run.began Run.begin).state

abbrev calls_before : List Call
calls_before = Run.calls_of Run.before_tag []

abbrev before : Ran
before = ran started (record { origin = Run.begin; began = started; log = [] }) calls_before

-- what the section gives where its tags leave w
abbrev given : State → Work → Stepped
given s w =
    record {
      reply = Run.replied_with 0 (part (splice Run.area 0 w.records) 0 (12 * (length w.records / 12)));
      state = section_taken (between s Run.area Run.tag_section) key w;
    }

tags_come : step before.state (Run.tag_entry).call ≡ given before.state (fields 8 none)
unfolding opened
tags_come = refl

abbrev calls_behind : List Call
calls_behind = Run.calls_of (Run.read_entry ∷ Run.key_entry ∷ Run.new_words) []

-- the slow tag is judged here
log_behind : (behind before (Run.tag_entry).call (given before.state eight) calls_behind).history.log ≡ Run.log
unfolding opened fields_judged mac_bits told
log_behind = refl

pub slow_tag_marks_old_set : (ran_from Run.began Run.begin Run.calls).history.log ≡ Run.log
unfolding ran_from
slow_tag_marks_old_set =
    ap (λ (r : Ran). r.history.log)
    (ran_call _ _ calls_before calls_behind (Run.tag_entry).call (given before.state eight) (tags_come ∙ ap (given before.state) eight_judged))
    ∙ log_behind
