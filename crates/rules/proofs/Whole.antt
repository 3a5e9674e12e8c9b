-- Request P3 of 02: with all marks 1 the sub-frame call is the one before it (`whole`), and what is lent for a field that did not come changes
-- nothing (`unseen`). Assumes nothing.
use Prim.Native.Nat.{ℕ, zero, suc, ◌+◌, ◌-◌, ◌*◌, ◌/◌, ◌%◌, ◌^◌, ◌≤◌, ◌<◌}
use mathlib.Core.Path.{◌≡◌, refl, sym, ◌∙◌, ap}
use mathlib.Core.Logic.{⊎_elim}
use mathlib.Core.Bool.{Bool, true, false, cond, not, ◌&&◌, ◌||◌}
use mathlib.Core.List.{List, [], ◌∷◌, ◌++◌}
use native.Mathlib.Omega.{arith}
use lib.Dec.{eqb, leb}
use lib.ListN.{length, take, replicate}
use lib.Seq.{take_all, take-add}
use borrow.Author.Tests.{le-leb, eqb-true, ne_eqb}
use Rattle.laws.specs.Lists.{part}
use Rattle.laws.specs.Refusal.{first_refusal, unless}
use Rattle.laws.proofs.Splice.{either, below?}
use Rattle.laws.proofs.Tests.{or_true}
use Rattle.rules.specs.Bits.{same}
use Rattle.rules.specs.Calls.{Subframe, chain_of, held_of, hkroot_received, hkroot_half, mack_half, section_proved, tags_worked, subframe_checks, halves_done, subframe_call, noted}
use Rattle.rules.specs.Chain.{Held}
use Rattle.rules.specs.Gather.{hkroot_of, mack_of, header_of, status_of}
use Rattle.rules.specs.Mack.{field_at, key_at, block_proved, keys_proved}
use Rattle.rules.specs.Received.{field_came, fields_came, received, bits_came, key_came, tag_came, info_came, flexible_came, macseq_came, block_received, keys_received, field_lost, field_judged, fields_judged}
use Rattle.rules.specs.State.{State, Nav, shaped, area_length}
use Rattle.rules.specs.Tags.{Section, Work, flexible, owns_judged}
use Rattle.rules.specs.Whole.{whole_proved, whole_worked, whole_mack, whole_checks, whole_halves, whole_subframe, Alike, LostFields}
use Rattle.rules.specs.declared.Chain.{Chain}

and_false : (b : Bool) → (b && false) ≡ false
and_false true = refl
and_false false = refl

one_field : (b : Bool) (f g : List ℕ) → (b ≡ true → f ≡ g) → cond b f (replicate 5 0) ≡ cond b g (replicate 5 0)
one_field true f g h = h refl
one_field false f g h = refl

-- ---- all marks 1

more_high : (m n : ℕ) (b : Bool) → m ≤ n → m + cond b 1 0 ≤ suc n
more_high m n true h = omega arith
more_high m n false h = omega arith

count_high : (marks n : ℕ) → fields_came marks n ≤ n
unfolding fields_came
count_high marks zero = omega arith
count_high marks (suc n) = more_high (fields_came marks n) n (field_came marks n) (count_high marks n)

-- a count that is as high as it can be
last_came : (m n : ℕ) (b : Bool) → m ≤ n → m + cond b 1 0 ≡ suc n → (m ≡ n) × (b ≡ true)
last_came m n true h e = (omega arith, refl)
last_came m n false h e = absurd (omega arith)

-- as many fields came as there are: each did
each_came : (marks n : ℕ) → fields_came marks n ≡ n → (k : ℕ) → k < n → field_came marks k ≡ true
unfolding fields_came
each_came marks zero e k l = absurd (omega arith)
each_came marks (suc n) e k l =
    let q = last_came (fields_came marks n) n (field_came marks n) (count_high marks n) e in
    ⊎_elim
    (λ (h : k < n). each_came marks n q.0 k h)
    (λ (h : n ≤ k).
    let z : k ≡ n = omega arith in
    rw z q.1)
    (below? k n)

no_more : (marks k : ℕ) → 15 ≤ k → field_came marks k ≡ true
unfolding field_came
no_more marks k h = rw (le-leb 15 k h) refl

neither_way : (f z : Bool) → (cond f false (not z && false) || false) ≡ false
neither_way true z = refl
neither_way false true = refl
neither_way false false = refl

module _ (marks : ℕ) (all : fields_came marks 15 ≡ 15) where
  came : (k : ℕ) → field_came marks k ≡ true
  came k = ⊎_elim (λ (h : k < 15). each_came marks 15 all k h) (λ (h : 15 ≤ k). no_more marks k h) (below? k 15)

  bits : (at n : ℕ) → bits_came marks at n ≡ true
  unfolding bits_came
  bits at zero = refl
  bits at (suc n) = rw (bits at n, came ((at + n) / 32)) refl

  fields_whole : (f : List ℕ) (n : ℕ) → 5 * n ≤ length f → received marks f n ≡ take (5 * n) f
  unfolding received part
  fields_whole f zero h = refl
  fields_whole f (suc n) h =
      let e : 5 * suc n ≡ 5 * n + 5 = omega arith in
      rw (fields_whole f n (omega arith), came n, e) (sym (take-add (5 * n) 5 f))

  -- ---- keys

  block : (c : Chain) (g prn first : ℕ) (m : List ℕ) (h : Held) (b : ℕ) → block_received c g prn first m marks h b ≡ block_proved c g prn first m h b
  unfolding block_received key_came
  block c g prn first m h b = rw (bits (key_at c b) (8 * c.width)) refl

  keys : (c : Chain) (g prn : ℕ) (m : List ℕ) (h : Held) (n : ℕ) → keys_received c g prn m marks h n ≡ keys_proved c g prn m h n
  unfolding keys_received keys_proved
  keys c g prn m h zero = refl
  keys c g prn m h (suc b) = rw (keys c g prn m h b, block c g prn h.slot m (keys_proved c g prn m h b).held (suc b)) refl

  -- ---- tags

  flexibles : (config : List ℕ) (c : Chain) (time n : ℕ) → flexible_came config c time marks n ≡ true
  unfolding flexible_came info_came
  flexibles config c time zero = refl
  flexibles config c time (suc j) = rw (flexibles config c time j, bits (field_at c j + c.ms) 16) (or_true (not (flexible config time j)))

  not_lost : (config : List ℕ) (c : Chain) (time j : ℕ) → field_lost config c time marks j ≡ false
  unfolding field_lost key_came tag_came info_came macseq_came
  not_lost config c time j =
      rw (
        bits (key_at c (j / c.fields + 1)) (8 * c.width),
        bits (field_at c j) c.ms,
        bits (field_at c j + c.ms) 16,
        bits c.ms 12,
        flexibles config c time (c.nmack * c.fields),
      ) (neither_way (flexible config time j) (eqb j 0))

  fields : (config : List ℕ) (nav : Nav) (c : Chain) (h : Held) (x : Section) (n : ℕ) (w : Work) → fields_judged config nav c h x marks n w ≡ owns_judged config nav c h x n w
  unfolding fields_judged field_judged owns_judged
  fields config nav c h x zero w = refl
  fields config nav c h x (suc j) w = rw (fields config nav c h x j w, not_lost config c x.time j) refl

-- ---- the halves and the call

module _ (x : Subframe) (all : fields_came x.marks 15 ≡ 15) where
  module _ (long : length x.bytes ≡ 75) where
    bytes : received x.marks x.bytes 15 ≡ x.bytes
    bytes = fields_whole x.marks all x.bytes 15 (omega arith) ∙ take_all 75 x.bytes (omega arith)

    checks : (s : State) (area : List ℕ) → subframe_checks s area x ≡ whole_checks s area x
    unfolding subframe_checks whole_checks
    checks s area = rw (bytes, all) refl

    proved : (s : State) (header : ℕ) (mack : List ℕ) → section_proved s x.prn x.time x.marks header mack ≡ whole_proved s x.prn x.time header mack
    unfolding section_proved whole_proved
    proved s header mack =
        rw (came x.marks all 0, keys x.marks all (chain_of s) x.time x.prn mack (held_of s) (chain_of s).nmack) refl

    worked : (s : State) (h : Held) (sec : Section) → tags_worked s h sec x.marks ≡ whole_worked s h sec
    unfolding tags_worked whole_worked
    worked s h sec = fields x.marks all s.config s.nav (chain_of s) h sec ((chain_of s).nmack * (chain_of s).fields) _

    mack : (s : State) (header : ℕ) (m : List ℕ) → mack_half s x.prn x.time x.marks header m ≡ whole_mack s x.prn x.time header m
    unfolding mack_half whole_mack
    mack s header m =
        rw (proved s header m, worked s (whole_proved s x.prn x.time header m).held (record { prn = x.prn; time = x.time; status = status_of header; mack = m })) refl

    hkroot : (s : State) (hk : List ℕ) → hkroot_received s x.time x.marks hk ≡ hkroot_half s x.time hk
    unfolding hkroot_received
    hkroot s hk = rw all refl

    halves : (s : State) (area : List ℕ) → halves_done s area x ≡ whole_halves s area x
    unfolding halves_done whole_halves
    halves s area =
        let hk = hkroot_of x.bytes 15 in
        rw (bytes, hkroot s hk, mack (hkroot_half s x.time hk).state (header_of hk) (mack_of x.bytes 15)) refl

    long_is : (s : State) (area : List ℕ) → subframe_call s area x ≡ whole_subframe s area x
    unfolding subframe_call whole_subframe
    long_is s area = rw (checks s area, halves (noted s x) area) refl

  -- another length is 1 in both
  short_is : eqb (length x.bytes) 75 ≡ false → (s : State) (area : List ℕ) → subframe_call s area x ≡ whole_subframe s area x
  unfolding subframe_call whole_subframe subframe_checks whole_checks
  short_is e s area = rw (e, and_false (eqb (length area) area_length), and_false (shaped s)) refl

  pub whole_is : (s : State) (area : List ℕ) → subframe_call s area x ≡ whole_subframe s area x
  whole_is s area = ⊎_elim (λ e. long_is (eqb-true (length x.bytes) 75 e) s area) (λ e. short_is e s area) (either (eqb (length x.bytes) 75))

-- ---- fields that did not come

-- what is lent for them is not looked at
same-fields : (marks n : ℕ) (f g : List ℕ) → ((k : ℕ) → k < n → field_came marks k ≡ true → part f (5 * k) 5 ≡ part g (5 * k) 5) → received marks f n ≡ received marks g n
unfolding received
same-fields marks zero f g h = refl
same-fields marks (suc n) f g h =
    rw (same-fields marks n f g (λ k l. h k (omega arith)), one_field (field_came marks n) (part f (5 * n) 5) (part g (5 * n) 5) (λ e. h n (omega arith) e)) refl

pub unseen_is : (s : State) (area : List ℕ) (prn time marks : ℕ) (f g : List ℕ) → length f ≡ length g → Alike marks f g
    → subframe_call s area (record { prn = prn; time = time; marks = marks; bytes = f }) ≡ subframe_call s area (record { prn = prn; time = time; marks = marks; bytes = g })
unfolding subframe_call subframe_checks halves_done noted
unseen_is s area prn time marks f g e h = rw (e, same-fields marks 15 f g h) refl

pub lost_fields : LostFields
lost_fields = record { whole = λ s area x all. whole_is x all s area; unseen = unseen_is }

-- the sub-frame of which every field came, as it is lent without marks
pub all_whole : (s : State) (area : List ℕ) (prn time : ℕ) (bytes : List ℕ)
    → subframe_call s area (record { prn = prn; time = time; marks = 65535; bytes = bytes }) ≡ whole_subframe s area (record { prn = prn; time = time; marks = 65535; bytes = bytes })
unfolding fields_came field_came
all_whole s area prn time bytes = whole_is (record { prn = prn; time = time; marks = 65535; bytes = bytes }) refl s area
