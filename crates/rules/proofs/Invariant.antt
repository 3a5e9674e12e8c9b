-- What ties the state to the history: one record for each part of the state, and one for all. `o` is the accepted start, `b` the state that it left.
-- Lengths of regions are no part of it: every call that is taken has tested them (row 1).
use Prim.Native.Nat.{ℕ, ◌/◌, ◌^◌, ◌≤◌, ◌<◌}
use mathlib.Core.Path.{◌≡◌}
use mathlib.Core.Logic.{◌≢◌, ◌⊎◌}
use mathlib.Core.Bool.{true, false}
use mathlib.Core.List.{List}
use mathlib.Core.Option.{Option, none, some}
use lib.ListN.{length, get_or}
use Rattle.rules.specs.Calls.{Start, Subframe, chain_of, held_of}
use Rattle.rules.specs.Candidates.{pair_at}
use Rattle.rules.specs.Chain.{Held, walk}
use Rattle.rules.specs.Claim.{PublicKey, BlockCame, KeyKnown, Vouched, Arrived, Disclosed, Agreed, Counted, tag_name, NoneOf, contents_by}
use Rattle.rules.specs.Gather.{marked, stored_block, total_of, complete}
use Rattle.rules.specs.Kroot.{kroot_of, root_seconds_of, chain_contents, in_force, offer_waits, offer_id}
use Rattle.rules.specs.Log.{Entry, Log, Once, state_at, section_in, last_word, last_noted, chain_in, chain_turns}
use Rattle.rules.specs.Navdata.{word_at, word_place}
use Rattle.rules.specs.PublicKeys.{key_held, key_type, key_bytes}
use Rattle.rules.specs.State.{State, Nav, Store, Auth, ns_of, tree_root, prn_valid, last_subframe, last_subframe_of, waiting_count}
use Rattle.rules.specs.Tags.{entry_at, entry_tag, entry_set}
use Rattle.rules.specs.Times.{key_seconds, time_valid, stamp_of}
use Rattle.rules.specs.Verdict.{Verdict, chain_unchanged}
use Rattle.rules.specs.declared.Chain.{Chain}
use Rattle.rules.proofs.Agreements.{PairIs}

-- a satellite that is heard, and a type that is held
pub record Place (prn kind : ℕ) : Type 0 where
  pub prn_low : 1 ≤ prn
  pub prn_high : prn ≤ 36
  pub kind_low : 1 ≤ kind
  pub kind_high : kind ≤ 5

-- the words are the last ones answered 0, with their stamps
pub record WordsAre (n : Nav) (l : Log) : Type 0 where
  pub bytes : (prn kind : ℕ) → Place prn kind → word_at n.words prn kind ≡ (last_word l prn kind).bytes
  pub stamps : (prn kind : ℕ) → Place prn kind → get_or n.stamps (word_place prn kind) 0 ≡ (last_word l prn kind).stamp

-- every marked block came in an HKROOT half answered 0, and with a block 0 none is marked past its count
pub record BlocksAre (s : Store) (l : Log) : Type 0 where
  pub came : (id k : ℕ) → id < 16 → k < 16 → marked (get_or s.present id 0) k ≡ true → Once (BlockCame (stored_block s.blocks id k) id k) l
  pub low : (id : ℕ) → id < 16 → marked (get_or s.present id 0) 0 ≡ true → get_or s.present id 0 / 2 ^ total_of (stored_block s.blocks id 0) ≡ 0

-- sixteen marks, and no ID with all of its blocks: "A complete DSM is taken out."
pub record Unfinished (s : Store) : Type 0 where
  pub sixteen : (id : ℕ) → id < 16 → get_or s.present id 0 / 2 ^ 16 ≡ 0
  pub incomplete : (id : ℕ) → id < 16 → complete s id ≡ false

abbrev pub heldkey : List ℕ → ℕ → PublicKey
heldkey keys id = record { id = id; type = key_type keys id; bytes = key_bytes keys id }

-- every public key held was given or proved
pub record KeysAre (o : Start) (keys : List ℕ) (l : Log) : Type 0 where
  pub known : (id : ℕ) → id < 16 → key_held keys id ≡ true → KeyKnown o (heldkey keys id) l

-- what waits has its key held
abbrev pub OfferHeld : List ℕ → List ℕ → Type 0
OfferHeld keys offer = offer_waits offer ≡ true → key_held keys (offer_id offer) ≡ true

-- the contents in force are those of the last verdict that counts, which was vouched for
pub record InForce (o : Start) (b : State) (contents : List ℕ) (l : Log) : Type 0 where
  pub said : Verdict
  pub in_force_law : chain_in l ≡ some said
  pub contents_are : contents ≡ contents_by said
  pub vouched : Once (Vouched o b said) l

-- the held key hashes down to the root, and is the root or came in a section answered 0
pub record HeldIs (c : Chain) (root : List ℕ) (h : Held) (l : Log) : Type 0 where
  pub width : length h.key ≡ c.width
  pub down : walk c h.slot 0 h.key ≡ root
  pub from : (h.slot ≡ 0) ⊎ Once (Disclosed c h.slot h.key) l

-- a waiting entry holds a tag that arrived since the last drop, with its set then, under a chain that these contents leave unchanged, and its key is not before the
-- sub-frame 0 of their root
pub record WaitIs (o : Start) (contents e : List ℕ) (l : Log) : Type 0 where
  pub by : Verdict
  pub arrived : Once (Arrived o by (chain_turns l) (entry_tag e) false (entry_set e)) l
  pub unchanged : chain_unchanged (contents_by by) contents ≡ true
  pub not_before : root_seconds_of contents ≤ key_seconds (entry_tag e).time (entry_tag e).adkd

-- ---- names of tags: no tag is judged twice

-- the name of waiting entry k
abbrev pub name_at : List ℕ → ℕ → List ℕ
name_at waiting k = tag_name (entry_tag (entry_at waiting k))

-- the waiting tags differ from each other and from those that were judged, `used`; so does any tag that is `U`
pub record NamesAre (U : List ℕ → Type 0) (waiting : List ℕ) (count : ℕ) (used : List (List ℕ)) : Type 0 where
  pub apart : (j k : ℕ) → j < k → k < count → name_at waiting j ≢ name_at waiting k
  pub unused : (k : ℕ) → k < count → NoneOf (name_at waiting k) used
  pub unseen : (n : List ℕ) → U n → NoneOf n used × ((k : ℕ) → k < count → n ≢ name_at waiting k)

-- a tag of this name comes after its sender's last sub-frame
abbrev pub Newer : List ℕ → List ℕ → Type 0
Newer clocks n = (prn_valid (get_or n 0 0) ≡ true) × (last_subframe_of clocks (get_or n 0 0) < stamp_of (get_or n 1 0))

-- ---- authentic sets and candidates

-- the tag agreed with these bits of this satellite, in this log
abbrev pub AgreedIn : Start → State → Log → ℕ → List ℕ → ℕ → Counted → Type 0
AgreedIn o b l prn navdata turn c = Once (Agreed o b prn navdata turn c) l

-- every authentic set has its forty bits, and every candidate the bits of its total
pub record SetsAre (o : Start) (b : State) (a : Auth) (used : List (List ℕ)) (l : Log) : Type 0 where
  pub backed : (prn : ℕ) → prn_valid prn ≡ true → PairIs (AgreedIn o b l prn) used (chain_turns l) (pair_at a.sets a.arrivals prn)

-- ---- the clock of sub-frames

abbrev pub stamp_noted : Option ℕ → ℕ
stamp_noted none = 0
stamp_noted (some t) = stamp_of t

-- a section of this sub-frame was answered 0
abbrev pub SectionOf : Subframe → Entry → Log → Type 0
SectionOf sub x older = section_in x ≡ some sub

-- it is the last time that was noted, and no section answered 0 has a later one; Sound has it beside `Inv`
pub record ClockIs (clocks : List ℕ) (l : Log) : Type 0 where
  pub last : last_subframe clocks ≡ stamp_noted (last_noted l)
  pub last_valid : (t : ℕ) → last_noted l ≡ some t → time_valid t ≡ true
  pub sections : (sub : Subframe) → Once (SectionOf sub) l → (time_valid sub.time ≡ true) × (stamp_of sub.time ≤ last_subframe clocks)

-- ---- all

pub record Inv (o : Start) (b : State) (s : State) (l : Log) : Type 0 where
  pub at : s ≡ state_at b l
  pub ns : ns_of s.config ≡ o.ns
  pub root : tree_root s.config ≡ o.root
  pub words : WordsAre s.nav l
  pub blocks : BlocksAre s.store l
  pub unfinished : Unfinished s.store
  pub pubkeys : KeysAre o s.pubkeys l
  pub offer : OfferHeld s.pubkeys s.offer
  pub force : in_force s.config s.chain ≡ true → InForce o b (chain_contents s.chain) l
  pub held : in_force s.config s.chain ≡ true → HeldIs (chain_of s) (kroot_of (chain_contents s.chain)) (held_of s) l
  pub waiting : in_force s.config s.chain ≡ true → (k : ℕ) → k < waiting_count s.tesla.numbers → WaitIs o (chain_contents s.chain) (entry_at s.tesla.waiting k) l
  -- the names of the tags that were judged
  pub used : List (List ℕ)
  pub names : NamesAre (Newer s.clocks) s.tesla.waiting (waiting_count s.tesla.numbers) used
  pub auth : SetsAre o b s.auth used l
