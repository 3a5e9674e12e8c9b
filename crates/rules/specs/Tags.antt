-- Tags: messages, outcomes, records, waiting tags and authentic sets (01, "MACK"; 000, 5.5 and 5.6).
use Rattle.std.specs.Prelude.{ℕ, zero, suc, ◌+◌, ◌-◌, ◌*◌, ◌/◌, ◌%◌, ◌^◌, Bool, true, false, cond, not, ◌&&◌, List, [], ◌∷◌, ◌++◌, leb, ltb, eqb, get_or}
use Rattle.laws.specs.Bytes.{be2, be4, u32at}
use Rattle.laws.specs.Lists.{part}
use Rattle.laws.specs.Refusal.{refuse, first_refusal, neb}
use Rattle.cmac.specs.Cmac.{cmac}
use Rattle.hmac.specs.Hmac.{hmac}
use Rattle.rules.specs.Bits.{bits, bit_list, packed, any_of}
use Rattle.rules.specs.Candidates.{Agreement, agreed, pair_at, sets_with, arrivals_with}
use Rattle.rules.specs.Chain.{Held, key_of_slot, key_slot}
use Rattle.rules.specs.Mack.{field_tag, field_info, macseq_of}
use Rattle.rules.specs.State.{Nav, mark_of, prn_valid, entry_length, copy_length}
use Rattle.rules.specs.Times.{delay_of, stamp_of, second_of, time_valid}
use Rattle.rules.specs.Navdata.{usable, set_of, set_issue}
use Rattle.rules.specs.declared.Chain.{Chain}
use Rattle.rules.specs.declared.Tag.{Tag}

-- ---- a tag's message and its match

-- the code of a message under the function that the chain's MF names: CMAC-AES for 1, else HMAC-SHA-256 (000, table 11; 02, P1; B1b)
unfoldable pub mac_code : ℕ → List ℕ → List ℕ → List ℕ
mac_code mf key message = cond (eqb mf 1) (cmac key message) (hmac key message)

-- its first n bits
unfoldable pub mac_bits : ℕ → ℕ → List ℕ → List ℕ → ℕ
mac_bits mf n key message = bits (mac_code mf key message) 0 n

-- NMA status (2 bits), the set's 549 bits, and a zero bit: 69 bytes
unfoldable pub status_and_set : ℕ → List ℕ → List ℕ
status_and_set status navdata = packed (bit_list (status * 64 ∷ []) 0 2 ++ bit_list navdata 0 549) 69

-- m0 of 000, 5.5: PRN_A, GST_SF, CTR, NMA status, navdata, padding: 75 bytes
unfoldable pub first_message : Tag → List ℕ → List ℕ
first_message t navdata = t.sender ∷ (be4 t.time ++ (t.position ∷ status_and_set t.status navdata))

-- m of 000, 5.5: PRN_N before it: 76 bytes
unfoldable pub tag_message : Tag → List ℕ → List ℕ
tag_message t navdata = t.prn ∷ first_message t navdata

-- the key of a tag's slot, from the held key
unfoldable pub tag_key : Chain → Held → Tag → List ℕ
tag_key c h t = key_of_slot c h (key_slot c t.time t.block t.adkd)

-- the tag matches the set; tag0 is the first field of a section
unfoldable pub tag_matches : Chain → Held → Bool → Tag → List ℕ → Bool
tag_matches c h first t navdata =
    eqb (mac_bits c.mf c.ms (tag_key c h t) (cond first (first_message t navdata) (tag_message t navdata))) t.bits

-- ---- records

-- "A tag record has 12 bytes: outcome, sending PRN, PRN authenticated, ADKD, block, position in it from 1, IODnav (2; 0 for outcomes 3, 4,
-- 6), GST_SF of arrival (4)."; 02, P3: outcome 8 "carries IODnav 0"
unfoldable pub tag_record : ℕ → Tag → ℕ → List ℕ
tag_record outcome t issue =
    outcome ∷ t.sender ∷ t.prn ∷ t.adkd ∷ t.block ∷ t.position ∷ (be2 issue ++ be4 t.time)

unfoldable pub record_issue : ℕ → List ℕ → ℕ
record_issue outcome navdata = cond (any_of (eqb outcome 3 ∷ eqb outcome 4 ∷ eqb outcome 6 ∷ eqb outcome 8 ∷ [])) 0 (set_issue navdata)

-- ---- waiting tags: an entry each, in arrival order

-- sender, PRN, ADKD, block, position, GST_SF (4), status, tag (5), the copy of its set
unfoldable pub tag_entry : Tag → List ℕ → List ℕ
tag_entry t navdata =
    t.sender ∷ t.prn ∷ t.adkd ∷ t.block ∷ t.position
    ∷ (be4 t.time ++ (t.status ∷ t.bits / 2 ^ 32 % 256 ∷ (be4 t.bits ++ navdata)))

-- entry k of the region, and the tag and set in it
unfoldable pub entry_at : List ℕ → ℕ → List ℕ
entry_at waiting k = part waiting (k * entry_length) entry_length

unfoldable pub entry_tag : List ℕ → Tag
entry_tag e =
    record {
      sender = get_or e 0 0;
      prn = get_or e 1 0;
      adkd = get_or e 2 0;
      block = get_or e 3 0;
      position = get_or e 4 0;
      time = u32at e 5;
      status = get_or e 9 0 % 4;
      bits = get_or e 10 0 * 2 ^ 32 + u32at e 11;
    }

unfoldable pub entry_set : List ℕ → List ℕ
entry_set e = part e 15 copy_length

-- "A waiting tag is due once the held slot reaches its key's slot."
unfoldable pub is_due : Chain → Held → Tag → Bool
is_due c h t = leb (key_slot c t.time t.block t.adkd) h.slot

-- ---- what the tags of a section leave

-- the waiting entries so far and their count, the sets and the stamps and totals beside them (State, Auth), the records so far
pub record Work : Type 0 where
  pub kept : List ℕ
  pub count : ℕ
  pub sets : List ℕ
  pub arrivals : List ℕ
  pub records : List ℕ

-- the tag names a satellite and a time; entries that no start leaves may not
unfoldable pub names_satellite : Tag → Bool
names_satellite t = prn_valid t.prn && time_valid t.time

-- a tag's record alone
unfoldable pub told_plain : ℕ → Tag → List ℕ → Work → Work
told_plain outcome t navdata w =
    record {
      kept = w.kept;
      count = w.count;
      sets = w.sets;
      arrivals = w.arrivals;
      records = w.records ++ tag_record outcome t (record_issue outcome navdata);
    }

-- what a tag of `ms` bits that agrees with its set leaves of its satellite's sets
unfoldable pub agreed_in : ℕ → Tag → List ℕ → Work → Agreement
agreed_in ms t navdata w = agreed ms (stamp_of t.time) navdata (pair_at w.sets w.arrivals t.prn)

-- a tag that agrees with its set: outcome 1 or 9 (02, P4)
unfoldable pub told_agreed : ℕ → Tag → List ℕ → Work → Work
told_agreed ms t navdata w =
    let a = agreed_in ms t navdata w in
    record {
      kept = w.kept;
      count = w.count;
      sets = sets_with w.sets t.prn a.pair;
      arrivals = arrivals_with w.arrivals t.prn a.pair;
      records = w.records ++ tag_record a.outcome t (record_issue a.outcome navdata);
    }

-- a tag of a chain with tags of `ms` bits, and what it was found to be: 1 says that it agrees with its set, another number is its outcome
unfoldable pub told : ℕ → ℕ → Tag → List ℕ → Work → Work
told ms found t navdata w =
    cond (eqb found 1)
    (cond (names_satellite t) (told_agreed ms t navdata w) (told_plain 9 t navdata w))
    (told_plain found t navdata w)

-- a tag that waits keeps a copy of its set
unfoldable pub kept : List ℕ → Work → Work
kept entry w = record { kept = w.kept ++ entry; count = w.count + 1; sets = w.sets; arrivals = w.arrivals; records = w.records }

-- a waiting tag: judged if it is due, else it stays
unfoldable pub due_judged : Chain → Held → List ℕ → Work → Work
due_judged c h e w =
    let t = entry_tag e in
    cond (is_due c h t) (told c.ms (cond (tag_matches c h false t (entry_set e)) 1 2) t (entry_set e) w) (kept e w)

-- the first n waiting tags: "Due tags are judged in arrival order before the section's own, and free their places."
unfoldable pub dues_judged : Chain → Held → List ℕ → ℕ → Work → Work
dues_judged c h waiting zero w = w
dues_judged c h waiting (suc n) w = due_judged c h (entry_at waiting n) (dues_judged c h waiting n w)

-- ---- the section's own tags

-- what a section brings beside its 60 bytes
pub record Section : Type 0 where
  pub prn : ℕ
  pub time : ℕ
  pub status : ℕ
  pub mack : List ℕ

-- second 30 of the minute
unfoldable pub second_half : ℕ → Bool
second_half g = eqb (second_of g % 60) 30

-- "0 to 15 fixed ADKD, 255 flexible"
unfoldable pub flexible : List ℕ → ℕ → ℕ → Bool
flexible config g j = eqb (mark_of config (second_half g) j) 255

-- field j as a tag: tag0 is the sender's own, ADKD 0
unfoldable pub own_tag : Chain → Section → ℕ → Tag
own_tag c x j =
    let info = field_info c x.mack j in
    record {
      sender = x.prn;
      prn = cond (eqb j 0) x.prn (info / 256);
      adkd = cond (eqb j 0) 0 (info / 16 % 16);
      block = j / c.fields + 1;
      position = j % c.fields + 1;
      time = x.time;
      status = x.status;
      bits = field_tag c x.mack j;
    }

-- m of 000, 5.6: PRN_A, GST_SF and the MAC-Info of the flexible ones of the first n fields, in order
unfoldable pub macseq_message : List ℕ → Chain → Section → ℕ → List ℕ
macseq_message config c x zero = x.prn ∷ be4 x.time
macseq_message config c x (suc j) =
    macseq_message config c x j ++ cond (flexible config x.time j) (be2 (field_info c x.mack j)) []

-- "MACSEQ uses the key of block 1's tags."
unfoldable pub macseq_fits : List ℕ → Chain → Held → Section → Bool
macseq_fits config c h x =
    eqb (mac_bits c.mf 12 (key_of_slot c h (key_slot c x.time 1 0)) (macseq_message config c x (c.nmack * c.fields))) (macseq_of c x.mack)

-- "4 ADKD not 0, 11, 12, or not the fixed one, or PRN not 1 to 36"
unfoldable pub not_allowed : List ℕ → ℕ → Tag → Bool
not_allowed config j t =
    any_of
    (not (any_of (eqb t.adkd 0 ∷ eqb t.adkd 11 ∷ eqb t.adkd 12 ∷ []))
    ∷ (not (flexible config t.time j) && neb t.adkd (mark_of config (second_half t.time) j))
    ∷ not (prn_valid t.prn)
    ∷ [])

-- "Tag outcomes, first that applies: 4 ..; 6 flexible and MACSEQ fails; 3 no usable set; then, without delay, 1 authentic or 2 wrong; with
-- delay, 5 waits with a copy of its set, or 7 if all 256 places are taken." Here 1 says that the tag agrees with its set: `told` makes it 1 or 9.
unfoldable pub own_outcome : List ℕ → Nav → Chain → Held → Section → ℕ → ℕ → ℕ
own_outcome config nav c h x j count =
    let t = own_tag c x j in
    first_refusal
    (refuse (not_allowed config j t) 4
    ∷ refuse (flexible config t.time j && not (macseq_fits config c h x)) 6
    ∷ refuse (not (usable nav t.prn t.time)) 3
    ∷ refuse (eqb (delay_of t.adkd) 0 && tag_matches c h (eqb j 0) t (set_of nav.words t.prn)) 1
    ∷ refuse (eqb (delay_of t.adkd) 0) 2
    ∷ refuse (ltb count 256) 5
    ∷ refuse true 7
    ∷ [])

-- field j of the section
unfoldable pub own_judged : List ℕ → Nav → Chain → Held → Section → ℕ → Work → Work
own_judged config nav c h x j w =
    let t = own_tag c x j in
    let navdata = set_of nav.words t.prn in
    let outcome = own_outcome config nav c h x j w.count in
    let told-w = told c.ms outcome t navdata w in
    cond (eqb outcome 5) (kept (tag_entry t navdata) told-w) told-w

-- the first n fields, in order
unfoldable pub owns_judged : List ℕ → Nav → Chain → Held → Section → ℕ → Work → Work
owns_judged config nav c h x zero w = w
owns_judged config nav c h x (suc j) w = own_judged config nav c h x j (owns_judged config nav c h x j w)
