-- Demand 3: what is claimed of every list of calls after an accepted start. Its sentences, and those of 01 and 02 that explain them, stand word for
-- word beside the fields that say them; FourThings has the four things, FortyBits what 02 (P4) asks of a mark beside them, FourBacked what stands
-- behind a yes to 02's question (P5), ProgressIs what stands behind a message's progress (P9), Refused the sentence on refused calls, Claim all of it.
--
-- How to read it. A record holds where all its fields do. `a ≡ b`: a equals b; `a ≢ b`: it does not. `P → Q`: P implies Q; `(n : ℕ) → P`: P of every
-- number n; `P × Q`: both; `(n : P) × Q`: Q of some n of P; `P ⊎ Q`: one of them. `Once P l`: P was so of an entry of the log l and of the entries
-- older than it. `Each P tags`: P of each of the tags. `part s a n`: the n bytes of s from place a on. `some v`: there is one, and it is v. `origin` is
-- always the accepted start of the list, `began` the state that it left.
use Rattle.std.specs.Prelude.{ℕ, suc, ◌+◌, ◌-◌, ◌*◌, ◌/◌, ◌^◌, ◌≤◌, ◌<◌, ◌≡◌, ◌≢◌, ◌⊎◌, Bool, true, false, cond, List, [], ◌∷◌, eqb, length, get_or, take, replicate}
use Rattle.std.proofs.Math.Option.{some}
use Rattle.std.specs.Int.Count.{ones}
use Rattle.laws.specs.Lists.{part}
use Rattle.laws.specs.Refusal.{first_refusal, unless}
use Rattle.rules.specs.Bits.{filled, any_of}
use Rattle.rules.specs.Calls.{Start, Word, Subframe, OfferRead, start_call, offer_read, auth_stamp, auth_set, fields_of, subframe_checks, noted, hkroot_received}
use Rattle.rules.specs.Chain.{hash_bytes, walk, sent_slot, key_slot}
use Rattle.rules.specs.Gather.{hkroot_of, mack_of, header_of, status_of, dsm_id_of, block_id_of, block_of, total_of, marked}
use Rattle.rules.specs.Kroot.{chain_with, kroot_of, hf_of}
use Rattle.rules.specs.Log.{Call, start, word, subframe, verdict, Question, set, offer, four, progress, ask, Handed, Entry, Log, Once, Always, History, ran_from, state_at, step, hkroot_in, section_in, verdict_in, last_word, last_noted, chain_in, chain_turns}
use Rattle.rules.specs.Mack.{block_key}
use Rattle.rules.specs.Navdata.{set_usable, set_bytes, set_issue}
use Rattle.rules.specs.Pkr.{new_id_of, new_type_of, new_key_of, emergency, pkr_size_bad, tree_proved}
use Rattle.rules.specs.Progress.{unknown_total}
use Rattle.rules.specs.PublicKeys.{key_length, key_held}
use Rattle.rules.specs.Received.{tag_came, info_came, key_came}
use Rattle.rules.specs.State.{State, prn_valid, held_slot}
use Rattle.rules.specs.Tags.{Section, own_tag, mac_bits, first_message, tag_message, tag_record}
use Rattle.rules.specs.Times.{seconds_of, key_seconds, stamp_of}
use Rattle.rules.specs.Verdict.{Verdict, message_contents, chain_unchanged}
use Rattle.rules.specs.declared.Chain.{Chain}
use Rattle.rules.specs.declared.Tag.{Tag}

-- ---- public keys

pub record PublicKey : Type 0 where
  pub id : ℕ
  pub type : ℕ
  -- 67 bytes, zeros after a short key
  pub bytes : List ℕ

-- "a public key given at that start"
abbrev pub given_key : Start → PublicKey
given_key x = record { id = x.id; type = x.type; bytes = filled 67 (take (key_length x.type) x.key) }

-- block k of the DSM with this ID came at this entry
pub record BlockCame (block : List ℕ) (id k : ℕ) (x : Entry) (older : Log) : Type 0 where
  pub sub : Subframe
  -- "in HKROOT halves answered 0"
  pub half_is : hkroot_in x ≡ some sub
  pub id_is : dsm_id_of (hkroot_of (fields_of sub) 15) ≡ id
  pub place_is : block_id_of (hkroot_of (fields_of sub) 15) ≡ k
  pub block_is : block_of (hkroot_of (fields_of sub) 15) ≡ block

-- "Proved key: from a DSM-PKR whose blocks all came in HKROOT halves answered 0." `root` is the tree root that the start gave
pub record KeyProved (root : List ℕ) (k : PublicKey) (l : Log) : Type 0 where
  pub dsm : List ℕ
  pub dsm_id : ℕ
  -- "12 to 15 DSM-PKR"
  pub is_pkr : 12 ≤ dsm_id
  -- as many blocks as its block 0 names, and all came
  pub whole : length dsm ≡ 13 * total_of (part dsm 0 13)
  pub blocks : (j : ℕ) → j < total_of (part dsm 0 13) → Once (BlockCame (part dsm (13 * j) 13) dsm_id j) l
  pub size : pkr_size_bad dsm ≡ false
  pub no_emergency : emergency dsm ≡ false
  -- "proved by its tree nodes"
  pub tree : tree_proved root dsm ≡ true
  pub id_is : k.id ≡ new_id_of dsm
  pub type_is : k.type ≡ new_type_of dsm
  pub bytes_are : k.bytes ≡ filled 67 (new_key_of dsm)

-- "given at that start or proved by its tree nodes"
pub data KeyKnown (origin : Start) (k : PublicKey) (l : Log) : Type 0 where
  given : k ≡ given_key origin → KeyKnown origin k l
  proved : KeyProved origin.root k l → KeyKnown origin k l

-- ---- verdicts

-- what a read of what waits hands out in this state, and the public key with it
abbrev pub would_hand : State → OfferRead
would_hand s = offer_read s (replicate 45 0) (replicate 132 0) (replicate 67 0)

abbrev pub handed_key : OfferRead → PublicKey
handed_key r = record { id = r.id; type = r.type; bytes = r.key }

-- "vouched for by a good verdict on its exact message, under a public key given at that start or proved by its tree nodes": here
pub record Vouched (origin : Start) (began : State) (v : Verdict) (x : Entry) (older : Log) : Type 0 where
  -- "a good verdict", answered 0
  pub verdict_is : verdict_in x ≡ some v
  pub good : v.good ≡ 1
  -- "on its exact message": a message waited, and a read would have handed out the message, signature and key ID that the verdict names
  pub waited : (would_hand (state_at began older)).code ≡ 0
  pub message_is : (would_hand (state_at began older)).message ≡ v.message
  pub signature_is : (would_hand (state_at began older)).signature ≡ v.signature
  pub id_is : (would_hand (state_at began older)).id ≡ v.id
  -- "under a public key ..": the one held, which that read would have handed out
  pub held : key_held (state_at began older).pubkeys v.id ≡ true
  pub known : KeyKnown origin (handed_key (would_hand (state_at began older))) older

-- the contents of the message of a verdict, the chain that they put in force, and its root
abbrev pub contents_by : Verdict → List ℕ
contents_by v = message_contents v.message

abbrev pub chain_by : Start → Verdict → Chain
chain_by origin v = chain_with origin.ns (contents_by v)

abbrev pub root_by : Verdict → List ℕ
root_by v = kroot_of (contents_by v)

-- ---- tags and sets

-- what a sub-frame brings to the MACK half
abbrev pub section_of : Subframe → Section
section_of x = record { prn = x.prn; time = x.time; status = status_of (header_of (hkroot_of (fields_of x) 15)); mack = mack_of (fields_of x) 15 }

-- "Its satellite's set then: the last word answered 0 of each type 1 to 5, usable for that section."
abbrev pub usable_in : Log → ℕ → ℕ → Bool
usable_in l prn time = set_usable time (last_word l prn 1) (last_word l prn 2) (last_word l prn 3) (last_word l prn 4) (last_word l prn 5)

abbrev pub set_in : Log → ℕ → List ℕ
set_in l prn = set_bytes (last_word l prn 1).bytes (last_word l prn 2).bytes (last_word l prn 3).bytes (last_word l prn 4).bytes (last_word l prn 5).bytes

-- the tag arrived at this entry, read by the chain `by` of the message that was in force, and these bits were its satellite's set. `turn` numbers the chain
-- that was in force; `first` says that it is tag0, the first field of its section
pub record Arrived (origin : Start) (by : Verdict) (turn : ℕ) (t : Tag) (first : Bool) (navdata : List ℕ) (x : Entry) (older : Log) : Type 0 where
  -- "A tag arrives in a section answered 0."
  pub sub : Subframe
  pub section_is : section_in x ≡ some sub
  pub in_force_law : chain_in older ≡ some by
  pub turn_is : turn ≡ chain_turns (x ∷ older)
  pub field : ℕ
  pub in_section : field < (chain_by origin by).nmack * (chain_by origin by).fields
  pub tag_is : t ≡ own_tag (chain_by origin by) (section_of sub) field
  -- every bit of it came, and of the PRN and ADKD that it names (02, P3)
  pub tag_came_law : tag_came (chain_by origin by) sub.marks field ≡ true
  pub info_came_law : field ≢ 0 → info_came (chain_by origin by) sub.marks field ≡ true
  pub first_is : first ≡ eqb field 0
  -- ADKD 0, 11 or 12, and PRN 1 to 36
  pub kind : any_of (eqb t.adkd 0 ∷ eqb t.adkd 11 ∷ eqb t.adkd 12 ∷ []) ≡ true
  pub heard : prn_valid t.prn ≡ true
  -- "Its satellite's set then"
  pub usable : usable_in older t.prn sub.time ≡ true
  pub set_is : navdata ≡ set_in older t.prn

-- ---- keys

-- a section answered 0 brought this key of this slot, slots counted by this chain; before its sub-frame 0 there is no slot
pub record Disclosed (c : Chain) (slot : ℕ) (key : List ℕ) (x : Entry) (older : Log) : Type 0 where
  pub sub : Subframe
  pub section_is : section_in x ≡ some sub
  -- block 1 to NMACK: `block` counts from 0
  pub block : ℕ
  pub in_section : block < c.nmack
  pub not_before : c.root ≤ seconds_of sub.time
  pub slot_is : slot ≡ sent_slot c sub.time (suc block) sub.prn
  pub key_is : key ≡ block_key c (mack_of (fields_of sub) 15) (suc block)
  -- every bit of it came (02, P3)
  pub key_came_law : key_came c sub.marks (suc block) ≡ true

-- "The key of a slot ..: one from a section answered 0, or that one hashed down."
pub record KeyOfSlot (c : Chain) (slot : ℕ) (key : List ℕ) (l : Log) : Type 0 where
  pub from_slot : ℕ
  pub from_key : List ℕ
  pub disclosed : Once (Disclosed c from_slot from_key) l
  pub reached : slot ≤ from_slot
  pub key_is : key ≡ walk c (from_slot - slot) slot from_key

-- the slot of a tag's key
abbrev pub slot_of_tag : Chain → Tag → ℕ
slot_of_tag c t = key_slot c t.time t.block t.adkd

-- "whichever hash the signed root names" (02, P6): the chain's steps are those of the HF of its contents, which names one (000, table 10), and a key is
-- part of its digest
pub record HashNamed (c : Chain) (contents : List ℕ) : Type 0 where
  pub hf_is : c.hf ≡ hf_of contents
  pub named : c.hf ≤ 2
  pub key_fits : c.width ≤ hash_bytes c.hf

-- ---- the four things

-- a tag and a set for which they hold, where the tag was judged: at this entry
pub record FourThings (origin : Start) (began : State) (t : Tag) (navdata : List ℕ) (x : Entry) (older : Log) : Type 0 where
  -- "Those very 549 bits were that satellite's set when the tag arrived."
  pub by : Verdict
  pub first : Bool
  -- and it arrived since the last new chain or drop: "Waiting tags stay only if the chain is unchanged", "drops the chain and the waiting tags"
  pub arrived : Once (Arrived origin by (chain_turns (x ∷ older)) t first navdata) (x ∷ older)
  -- "the chain in force when the tag was judged"; "the chain is unchanged (CID, parameters, α)" since the tag arrived
  pub force : Verdict
  pub in_force_law : chain_in older ≡ some force
  pub unchanged : chain_unchanged (contents_by by) (contents_by force) ≡ true
  -- "The tag matches them under the key of its slot.", by the function that the signed root names (02, P1); its slot is none before the root's
  -- sub-frame 0
  pub key : List ℕ
  pub not_before : (chain_by origin force).root ≤ key_seconds t.time t.adkd
  pub of_slot : KeyOfSlot (chain_by origin force) (slot_of_tag (chain_by origin force) t) key (x ∷ older)
  pub matches : mac_bits (chain_by origin force).mf (chain_by origin force).ms key (cond first (first_message t navdata) (tag_message t navdata)) ≡ t.bits
  -- "That key hashes, in exactly as many steps as its slot number, to the root of the chain in force when the tag was judged."
  pub to_root : walk (chain_by origin force) (slot_of_tag (chain_by origin force) t) 0 key ≡ root_by force
  -- "The chain steps promised to the user are steps of whichever hash the signed root names." (02, P6)
  pub hash_named : HashNamed (chain_by origin force) (contents_by force)
  -- "That root was vouched for by a good verdict on its exact message, under a public key given at that start or proved by its tree nodes."
  pub vouched : Once (Vouched origin began force) older

-- ---- forty bits (02, P4)

-- a tag and the number of its bits
pub record Counted : Type 0 where
  pub tag : Tag
  pub size : ℕ

-- a tag that agreed with these 549 bits of this satellite where it was judged: at this entry. `turn` numbers the chain that was in force then
pub record Agreed (origin : Start) (began : State) (prn : ℕ) (navdata : List ℕ) (turn : ℕ) (c : Counted) (x : Entry) (older : Log) : Type 0 where
  pub prn_is : c.tag.prn ≡ prn
  -- record `place` of this entry, from 0, is the tag's, with outcome 1 or 9
  pub outcome : ℕ
  pub place : ℕ
  pub outcome_is : (outcome ≡ 1) ⊎ (outcome ≡ 9)
  pub record_is : part x.reply.records (12 * place) 12 ≡ tag_record outcome c.tag (set_issue navdata)
  -- "each meeting every condition the mission sets for one when it was judged"
  pub four : FourThings origin began c.tag navdata x older
  -- its size: MS of the chain in force
  pub size_is : c.size ≡ (chain_by origin four.force).ms
  pub turn_is : turn ≡ chain_turns older

-- what tells tags apart: the sender, GST_SF of arrival, block and position (B24)
abbrev pub tag_name : Tag → List ℕ
tag_name t = t.sender ∷ t.time ∷ t.block ∷ t.position ∷ []

abbrev pub names : List Counted → List (List ℕ)
names [] = []
names (c ∷ cs) = tag_name c.tag ∷ names cs

-- a name is none of these, and these are all different
abbrev pub NoneOf : List ℕ → List (List ℕ) → Type 0
NoneOf n [] = Unit {0}
NoneOf n (m ∷ ms) = (n ≢ m) × NoneOf n ms

abbrev pub Distinct : List (List ℕ) → Type 0
Distinct [] = Unit {0}
Distinct (n ∷ ns) = NoneOf n ns × Distinct ns

abbrev pub Each : (Counted → Type 0) → List Counted → Type 0
Each P [] = Unit {0}
Each P (c ∷ cs) = P c × Each P cs

abbrev pub sizes : List Counted → ℕ
sizes [] = 0
sizes (c ∷ cs) = c.size + sizes cs

-- "An authentic mark then rests on distinct tags, each meeting every condition the mission sets for one when it was judged, whose sizes sum to at least
-- 40.": `Told turn c` says that the tag c agreed, with the chain of this number in force
pub record FortyBits (Told : ℕ → Counted → Type 0) : Type 0 where
  pub tags : List Counted
  -- all were judged with one chain in force: "A new chain or a drop clears candidates."
  pub turn : ℕ
  pub each : Each (Told turn) tags
  pub distinct : Distinct (names tags)
  pub enough : 40 ≤ sizes tags

-- the tag agreed by the time that the first n records of this entry were told: in an older entry, or here by one of these records
abbrev pub AgreedUpTo : Start → State → ℕ → List ℕ → ℕ → Entry → Log → ℕ → Counted → Type 0
AgreedUpTo origin began prn navdata n x older turn c =
    Once (Agreed origin began prn navdata turn c) older ⊎ ((a : Agreed origin began prn navdata turn c x older) × (a.place < n))

-- "Marked: outcome 1, by its record's tag": record `place` of this entry, from 0, is the tag's with outcome 1, the four things hold, and its set has its
-- forty bits, of tags that were told up to this record: "until then a matching tag is outcome 9"
pub record Marked (origin : Start) (began : State) (place : ℕ) (t : Tag) (navdata : List ℕ) (x : Entry) (older : Log) : Type 0 where
  pub record_is : part x.reply.records (12 * place) 12 ≡ tag_record 1 t (set_issue navdata)
  pub four : FourThings origin began t navdata x older
  pub forty : FortyBits (AgreedUpTo origin began t.prn navdata (place + 1) x older)

-- some tag and set stand behind record `place`
pub record MarkBacked (origin : Start) (began : State) (place : ℕ) (x : Entry) (older : Log) : Type 0 where
  pub tag : Tag
  pub navdata : List ℕ
  pub marked : Marked origin began place tag navdata x older

-- "a set read, by a tag for that PRN that came at the GST_SF read": these bits of this satellite have their forty bits in the log, and a tag that agreed
-- with them came at `time`
pub record SetBacked (origin : Start) (began : State) (prn time : ℕ) (navdata : List ℕ) (l : Log) : Type 0 where
  pub forty : FortyBits (λ (turn : ℕ) (c : Counted). Once (Agreed origin began prn navdata turn c) l)
  -- "with its latest tag as the set's": none of them came later than `time`
  pub latest : Each (λ (c : Counted). c.tag.time ≤ time) forty.tags
  -- one of them came then, or a later one on the set's bits (01: "Outcome 1 replaces the satellite's authentic set unless that set's tag came later.")
  pub last : Counted
  pub last_turn : ℕ
  pub came : last.tag.time ≡ time
  pub last_agreed : Once (Agreed origin began prn navdata last_turn last) l

-- ---- four satellites (02, P5)

-- this satellite's authentic set, which a read gives then, is backed as one that is read, and its tag came within so many sub-frames, of 30 seconds, of
-- `last`
pub record RecentlyBacked (origin : Start) (began : State) (last limit : ℕ) (l : Log) (prn : ℕ) : Type 0 where
  pub heard : prn_valid prn ≡ true
  pub time : ℕ
  pub navdata : List ℕ
  pub time_is : auth_stamp (state_at began l).auth prn ≡ stamp_of time
  pub navdata_is : auth_set (state_at began l).auth prn ≡ navdata
  pub backed : SetBacked origin began prn time navdata l
  pub not_later : seconds_of time ≤ seconds_of last
  -- "An age equal to the limit counts."
  pub within : seconds_of last ≤ seconds_of time + 30 * limit

-- "at least four satellites have an authentic set whose tag came within a given number of sub-frames", against "the last noted sub-frame time"
pub record FourBacked (origin : Start) (began : State) (limit : ℕ) (l : Log) : Type 0 where
  -- "before any is noted the answer is no."
  pub last : ℕ
  pub last_is : last_noted l ≡ some last
  -- four PRNs, all different
  pub first : ℕ
  pub second : ℕ
  pub third : ℕ
  pub fourth : ℕ
  pub apart : (first < second) × ((second < third) × (third < fourth))
  pub first_is : RecentlyBacked origin began last limit l first
  pub second_is : RecentlyBacked origin began last limit l second
  pub third_is : RecentlyBacked origin began last limit l third
  pub fourth_is : RecentlyBacked origin began last limit l fourth

-- ---- the progress of messages (02, P9)

-- what is said of a DSM ID: so many blocks held, so many missing
pub record ProgressIs (id held missing : ℕ) (l : Log) : Type 0 where
  -- sixteen marks, block 0's in the lowest bit, and the bytes of each block that is marked
  pub present : ℕ
  pub block : ℕ → List ℕ
  pub sixteen : present / 2 ^ 16 ≡ 0
  -- "the number of blocks held", and each came in an HKROOT half answered 0
  pub held_is : held ≡ ones present
  pub came : (k : ℕ) → k < 16 → marked present k ≡ true → Once (BlockCame (block k) id k) l
  -- "Without block 0 the total is called unknown."
  pub without_first : marked present 0 ≡ false → missing ≡ unknown_total
  -- "once block 0 is present, the number still missing": the total is block 0's, and no block past it is held
  pub with_first : marked present 0 ≡ true → (held + missing ≡ total_of (block 0)) × (present / 2 ^ total_of (block 0) ≡ 0)
  -- "A complete DSM is taken out.": one at least is missing
  pub some_missing : 1 ≤ missing

-- what a read handed out is what waits, with a key that was given or proved
pub record HandedFairly (origin : Start) (began : State) (h : Handed) (l : Log) : Type 0 where
  pub waited : (would_hand (state_at began l)).code ≡ 0
  pub message_is : h.message ≡ (would_hand (state_at began l)).message
  pub signature_is : h.signature ≡ (would_hand (state_at began l)).signature
  pub key_is : record { id = h.id; type = h.type; bytes = h.key } ≡ handed_key (would_hand (state_at began l))
  pub known : KeyKnown origin (handed_key (would_hand (state_at began l))) l

-- what is claimed of an entry and of what is older
pub record Fair (origin : Start) (began : State) (x : Entry) (older : Log) : Type 0 where
  -- "every navigation set that was marked authentic in the list": record k, if its first byte is outcome 1
  pub marks : (k : ℕ) → 12 * k < length x.reply.records → get_or x.reply.records (12 * k) 0 ≡ 1 → MarkBacked origin began k x older
  -- "or that a read after it gives"
  pub reads : (prn : ℕ) (out : List ℕ) → x.call ≡ ask (set prn out) → x.reply.code ≡ 0 → SetBacked origin began prn x.reply.time x.reply.out older
  -- and all that the signature chip is handed
  pub hands : (message signature key : List ℕ) → x.call ≡ ask (offer message signature key) → x.reply.code ≡ 0 → HandedFairly origin began x.reply.handed older
  -- a yes to the question for four satellites (02, P5)
  pub fours : (limit : ℕ) → x.call ≡ ask (four limit) → x.reply.yes ≢ 0 → FourBacked origin began limit older
  -- and what is said of each of the sixteen DSM IDs, two numbers of each (02, P9)
  pub gathers : (out : List ℕ) → x.call ≡ ask (progress out) → x.reply.code ≡ 0 → (id : ℕ) → id < 16
      → ProgressIs id (get_or x.reply.out (2 * id) 0) (get_or x.reply.out (2 * id + 1) 0) older

-- ---- refused calls and halves

-- "Public keys, the chain in force with its root, the held key and authentic sets are then as before that call or half." The settings too: NS and MACLT
-- decide which chain the contents give. And candidates with their totals, which stand in one part of the state with the authentic sets.
pub record Kept (s s' : State) : Type 0 where
  pub config : s'.config ≡ s.config
  pub pubkeys : s'.pubkeys ≡ s.pubkeys
  pub chain : s'.chain ≡ s.chain
  pub slot : held_slot s'.tesla.numbers ≡ held_slot s.tesla.numbers
  pub key : s'.tesla.key ≡ s.tesla.key
  pub auth : s'.auth ≡ s.auth

-- the state between the halves of a sub-frame, which the HKROOT half left; a sub-frame that one of 1 to 5 refuses has no halves, and only number 5 notes
-- its time
abbrev pub between : State → List ℕ → Subframe → State
between s area x =
    let n = first_refusal (subframe_checks s area x) in
    unless n (hkroot_received (noted s x) x.time x.marks (hkroot_of (fields_of x) 15)).state (cond (eqb n 5) (noted s x) s)

-- "No refused call in the list, nor a refused half of one, changes a key, a chain or an authentic set.": of every state, so of those in the list.
-- "Refused: a number other than 0, for a sub-frame each half by its own."
pub record Refused : Type 0 where
  pub start : (s : State) (x : Start) → (step s (start x)).reply.code ≢ 0 → (step s (start x)).state ≡ s
  pub word : (s : State) (w : Word) → (step s (word w)).reply.code ≢ 0 → (step s (word w)).state ≡ s
  pub verdict : (s : State) (v : Verdict) → (step s (verdict v)).reply.code ≢ 0 → Kept s (step s (verdict v)).state
  pub hkroot : (s : State) (area : List ℕ) (x : Subframe) → (step s (subframe area x)).reply.code ≢ 0 → Kept s (between s area x)
  -- a refused MACK half changes nothing at all
  pub mack : (s : State) (area : List ℕ) (x : Subframe) → (step s (subframe area x)).reply.mack ≢ 0 → (step s (subframe area x)).state ≡ between s area x
  -- asking changes nothing, refused or not
  pub ask : (s : State) (q : Question) → (step s (ask q)).state ≡ s

-- ---- the claim

-- every entry since the accepted start is fair
abbrev pub FairHistory : History → Type 0
FairHistory h = Always (Fair h.origin h.began) h.log

pub record Claim : Type 0 where
  -- "For every list of words, sub-frames, verdicts, reads and refused starts after an accepted start, whatever their bytes, lengths, times and verdicts,
  -- answered 0 or refused": s is whatever the regions held before that start; a later accepted start begins a new list
  pub fair : (s : State) (x : Start) → (start_call s x).code ≡ 0 → (calls : List Call) → FairHistory (ran_from s x calls).history
  -- "holding only what it was given: no word, block, message, chain, tag, set or time from before"
  pub begins : (s s' : State) (x : Start) → (start_call s x).code ≡ 0 → (start_call s' x).code ≡ 0 → (start_call s x).state ≡ (start_call s' x).state
  pub refused : Refused
