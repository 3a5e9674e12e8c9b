-- The claim of the worked run taken apart: the four things of demand 3 hold of real bytes for each of the four tags, and their bits are at least forty,
-- each shown by computing it, without the theorem. The slow tag's record is backed by the OLD set, and so is the read after it. So the claim is not
-- empty. Assumes nothing.
use Prim.Native.Nat.{ℕ, suc, ◌*◌, ◌<◌}
use mathlib.Core.Path.{◌≡◌, refl, ap}
use mathlib.Core.Logic.{◌≢◌, inl, inr}
use mathlib.Core.Bool.{true, false}
use mathlib.Core.List.{List, [], ◌∷◌}
use lib.Dec.{eqb}
use lib.ListN.{get_or}
use borrow.Author.Tests.{ltb-true, leb-true, eqb-false}
use Rattle.laws.specs.Lists.{part}
use Rattle.rules.proofs.Agreements.{each_map}
use Rattle.rules.specs.Bits.{any_of}
use Rattle.rules.specs.Claim.{Arrived, Disclosed, Vouched, given, HashNamed, FourThings, Counted, Agreed, AgreedUpTo, names, Distinct, Each, FortyBits, Marked, SetBacked, contents_by, chain_by, section_of}
use Rattle.rules.specs.Log.{Entry, Log, Once, here, earlier}
use Rattle.rules.specs.Navdata.{set_issue}
use Rattle.rules.specs.Received.{tag_came, info_came}
use Rattle.rules.specs.Tags.{own_tag, mac_bits, tag_message, tag_record}
use Rattle.rules.specs.declared.Chain.{Chain}
use Rattle.rules_examples.proofs.Macs.{macs}
use Rattle.rules_examples.proofs.Opened.{opened}
use Rattle.rules_examples.specs.SlowTag.{began, begin, said, key1, key2, tag_for, slow_tag, counted, first_three, all_four, tag_section, key_section, old_set, gathered, verdict_entry, before_tag, tag_entry, before_key, key_entry, read_entry}

abbrev chain : Chain
chain = chain_by begin said

-- ---- what the four tags share

-- "Those very 549 bits were that satellite's set when the tag arrived.": of the tag in this field, with its ADKD and bits
arrived : (field adkd bits : ℕ) → field < 8 → tag_for (suc field) adkd bits ≡ own_tag chain (section_of tag_section) field
    → tag_came chain tag_section.marks field ≡ true → info_came chain tag_section.marks field ≡ true → false ≡ eqb field 0 → any_of (eqb adkd 0 ∷ eqb adkd 11 ∷ eqb adkd 12 ∷ []) ≡ true
    → Arrived begin said 1 (tag_for (suc field) adkd bits) false old_set tag_entry before_tag
unfolding opened
arrived field adkd bits in_section tag_is tag_came_law info_came_law first_is kind =
    record {
      sub = tag_section;
      section_is = refl;
      in_force_law = refl;
      turn_is = refl;
      field = field;
      in_section = in_section;
      tag_is = tag_is;
      tag_came_law = tag_came_law;
      info_came_law = λ _. info_came_law;
      first_is = first_is;
      kind = kind;
      heard = refl;
      usable = refl;
      set_is = refl;
    }

-- "That root was vouched for by a good verdict on its exact message, under a public key given at that start"
vouched : Vouched begin began said verdict_entry gathered
unfolding opened
vouched =
    record {
      verdict_is = refl;
      good = refl;
      waited = refl;
      message_is = refl;
      signature_is = refl;
      id_is = refl;
      held = refl;
      known = given refl;
    }

vouched_before_tag : Once (Vouched begin began said) before_tag
vouched_before_tag = earlier (earlier (earlier (earlier (earlier (here vouched)))))

-- from the section with the tags to the section with the slow tag's key
before_key_lem : {P : Entry → Log → Type 0} → Once P (tag_entry ∷ before_tag) → Once P before_key
before_key_lem o = earlier (earlier (earlier (earlier (earlier o))))

-- ---- the slow tag, judged in the section with its key

-- "one from a section answered 0": the key of slot 2
disclosed_2 : Disclosed chain 2 key2 key_entry before_key
unfolding opened
disclosed_2 =
    record { sub = key_section; section_is = refl; block = 0; in_section = ltb-true 0 _ refl; not_before = leb-true _ _ refl; slot_is = refl; key_is = refl; key_came_law = refl }

-- HF is 0
by_sha256 : HashNamed chain (contents_by said)
unfolding opened
by_sha256 = record { hf_is = refl; named = leb-true _ 2 refl; key_fits = leb-true _ _ refl }

four_things : FourThings begin began slow_tag old_set key_entry before_key
unfolding opened mac_bits
four_things =
    record {
      by = said;
      first = false;
      arrived = earlier (before_key_lem (here (arrived 1 11 0x67C (ltb-true 1 8 refl) refl refl refl refl refl)));
      force = said;
      in_force_law = refl;
      unchanged = refl;
      key = key2;
      not_before = leb-true _ _ refl;
      of_slot = record { from_slot = 2; from_key = key2; disclosed = here disclosed_2; reached = leb-true _ 2 refl; key_is = refl };
      matches = refl;
      to_root = refl;
      hash_named = by_sha256;
      vouched = before_key_lem (earlier vouched_before_tag);
    }

slow_agreed : Agreed begin began 1 old_set 1 (counted slow_tag) key_entry before_key
unfolding opened four_things
slow_agreed = record { prn_is = refl; outcome = 1; place = 0; outcome_is = inl refl; record_is = refl; four = four_things; size_is = refl; turn_is = refl }

-- ---- the three tags, judged in their own section

disclosed_1 : Disclosed chain 1 key1 tag_entry before_tag
unfolding opened
disclosed_1 =
    record { sub = tag_section; section_is = refl; block = 0; in_section = ltb-true 0 _ refl; not_before = leb-true _ _ refl; slot_is = refl; key_is = refl; key_came_law = refl }

-- the tag in this field, with its bits
agreed : (field bits : ℕ) → Arrived begin said 1 (tag_for (suc field) 0 bits) false old_set tag_entry before_tag
    → part tag_entry.reply.records (12 * field) 12 ≡ tag_record 9 (tag_for (suc field) 0 bits) (set_issue old_set) → mac_bits 0 12 key1 (tag_message (tag_for (suc field) 0 bits) old_set) ≡ bits
    → Once (Agreed begin began 1 old_set 1 (counted (tag_for (suc field) 0 bits))) before_key
unfolding opened
agreed field bits a record_is matches =
    before_key_lem
    (here
    (record {
      prn_is = refl;
      outcome = 9;
      place = field;
      outcome_is = inr refl;
      record_is = record_is;
      four =
          record {
            by = said;
            first = false;
            arrived = here a;
            force = said;
            in_force_law = refl;
            unchanged = refl;
            key = key1;
            not_before = leb-true _ _ refl;
            of_slot = record { from_slot = 1; from_key = key1; disclosed = here disclosed_1; reached = leb-true _ 1 refl; key_is = refl };
            matches = matches;
            to_root = refl;
            hash_named = by_sha256;
            vouched = vouched_before_tag;
          };
      size_is = refl;
      turn_is = refl;
    }))

abbrev AgreedIn : Log → Counted → Type 0
AgreedIn l c = Once (Agreed begin began 1 old_set 1 c) l

-- they were told before the slow tag was judged
three_agreed : Each (AgreedIn before_key) first_three
unfolding opened
three_agreed = (
  agreed 2 0xE3D (arrived 2 0 0xE3D (ltb-true 2 8 refl) refl refl refl refl refl) refl macs.0,
  (
    agreed 3 0xFD1 (arrived 3 0 0xFD1 (ltb-true 3 8 refl) refl refl refl refl refl) refl macs.1.0,
    (agreed 4 0x39D (arrived 4 0 0x39D (ltb-true 4 8 refl) refl refl refl refl refl) refl macs.1.1.0, tt),
  ),
)

-- ---- forty bits

-- names with different positions differ
apart : (m n : List ℕ) → eqb (get_or m 3 0) (get_or n 3 0) ≡ false → m ≢ n
apart m n e same = eqb-false (get_or m 3 0) (get_or n 3 0) e (ap (λ (k : List ℕ). get_or k 3 0) same)

distinct : Distinct (names all_four)
distinct = ((apart _ _ refl, (apart _ _ refl, (apart _ _ refl, tt))), ((apart _ _ refl, (apart _ _ refl, tt)), ((apart _ _ refl, tt), (tt, tt))))

-- the four tags agreed; what the three told before have is what `Told` asks
forty : (Told : ℕ → Counted → Type 0) → Told 1 (counted slow_tag) → ((c : Counted) → AgreedIn before_key c → Told 1 c) → FortyBits Told
forty Told slow before =
    record { tags = all_four; turn = 1; each = (slow, each_map (AgreedIn before_key) (Told 1) before first_three three_agreed); distinct = distinct; enough = leb-true 40 48 refl }

-- the record of outcome 1, and the set read
pub marked : Marked begin began 0 slow_tag old_set key_entry before_key
unfolding opened slow_agreed
marked = record { record_is = refl; four = four_things; forty = forty (AgreedUpTo begin began 1 old_set 1 key_entry before_key) (inr (slow_agreed, ltb-true 0 1 refl)) (λ c o. inl o) }

pub tags_are : marked.forty.tags ≡ all_four
unfolding marked forty
tags_are = refl

pub old_set_backed : SetBacked begin began 1 read_entry.reply.time read_entry.reply.out (key_entry ∷ before_key)
unfolding opened forty
old_set_backed =
    record {
      forty = forty (λ (turn : ℕ) (c : Counted). Once (Agreed begin began 1 old_set turn c) (key_entry ∷ before_key)) (here slow_agreed) (λ c o. earlier o);
      latest = (leb-true _ _ refl, (leb-true _ _ refl, (leb-true _ _ refl, (leb-true _ _ refl, tt))));
      last = counted slow_tag;
      last_turn = 1;
      came = refl;
      last_agreed = here slow_agreed;
    }
