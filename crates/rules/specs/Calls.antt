-- The calls: start, word, sub-frame, verdict and the reads. Each has its refusals as a list of conditions and numbers in the order
-- of 01 ("Checks go ..", "its checks go .."), the first one wins, and then its effect on the whole state and on every lent byte. Row 1 is about
-- what that call is lent.
use Rattle.std.specs.Prelude.{ℕ, zero, suc, ◌+◌, ◌-◌, ◌*◌, ◌/◌, Bool, true, false, cond, not, ◌&&◌, ◌||◌, List, [], ◌∷◌, ◌++◌, leb, ltb, eqb, length, get_or, take, replicate, set}
use Rattle.laws.specs.Lists.{part, splice}
use Rattle.laws.specs.Refusal.{Check, refuse, first_refusal, unless, neb}
use Rattle.rules.specs.Bits.{filled, same, any_of, within}
use Rattle.rules.specs.Chain.{Held, held}
use Rattle.rules.specs.Four.{four_met}
use Rattle.rules.specs.Gather.{hkroot_of, mack_of, header_of, status_of, cid_of, dsm_id_of, gathered, Gathered}
use Rattle.rules.specs.PublicKeys.{key_length, key_type, key_bytes, with_key}
use Rattle.rules.specs.Kroot.{kroot_judged, no_offer, chain_with, chain_contents, in_force, offer_waits, offer_id, offer_message, offer_signature}
use Rattle.rules.specs.Mack.{Proved}
use Rattle.rules.specs.Pkr.{pkr_judged}
use Rattle.rules.specs.Progress.{pairs_of}
use Rattle.rules.specs.Received.{field_came, fields_came, received, keys_received, fields_judged}
use Rattle.rules.specs.State.{State, Store, Auth, shaped, word_shaped, verdict_shaped, set_shaped, four_shaped, progress_shaped, offer_shaped, ns_of, stopped_at, tree_root, stopped, last_subframe, last_subframe_of, last_word_of, prn_valid, held_slot, waiting_count}
use Rattle.rules.specs.State.{with_config, with_clocks, with_nav, with_store, with_pubkeys, with_offer, with_tesla, with_auth}
use Rattle.rules.specs.State.{clocks_length, words_length, stamps_length, blocks_length, dsm_ids, pubkeys_length, chain_length, heldkey_length, waiting_length, sets_length, arrivals_length, copy_length, area_length}
use Rattle.rules.specs.Tags.{Section, Work, dues_judged}
use Rattle.rules.specs.Times.{time_valid, stamp_of, seconds_of}
use Rattle.rules.specs.Verdict.{Verdict, vouch_checks, judged_verdict, cid_in_force}
use Rattle.rules.specs.Navdata.{word_type, svid_of, held_type, word_stored, set_issue}
use Rattle.rules.specs.declared.Chain.{Chain}

-- what start, word and verdict give: the answer's number and the state
pub record Told : Type 0 where
  pub code : ℕ
  pub state : State

-- ---- start

pub record Start : Type 0 where
  pub ns : ℕ
  pub id : ℕ
  pub type : ℕ
  pub maclt : ℕ
  -- 14 + 14
  pub marks : List ℕ
  -- 32
  pub root : List ℕ
  -- 67, zeros or anything after a short key
  pub key : List ℕ

-- "0 to 15 fixed ADKD, 255 flexible"
unfoldable pub mark_valid : ℕ → Bool
mark_valid m = leb m 15 || eqb m 255

-- the first n marks are in range
unfoldable pub marks_valid : List ℕ → ℕ → Bool
marks_valid marks zero = true
marks_valid marks (suc n) = marks_valid marks n && mark_valid (get_or marks n 0)

-- row 2, start: "NS, key ID, key type, mark .. out of range"; "the first is 0", in each of the two lists (A4)
unfoldable pub start_unfit : Start → Bool
start_unfit x =
    any_of
    (not (within 1 36 x.ns)
    ∷ ltb 15 x.id
    ∷ ltb 3 x.type
    ∷ not (marks_valid x.marks 28)
    ∷ neb (get_or x.marks 0 0) 0
    ∷ neb (get_or x.marks 14 0) 0
    ∷ [])

unfoldable pub start_lengths : Start → Bool
start_lengths x = eqb (length x.marks) 28 && (eqb (length x.root) 32 && eqb (length x.key) 67)

unfoldable pub start_checks : State → Start → List Check
start_checks s x = refuse (not (shaped s && start_lengths x)) 1 ∷ refuse (start_unfit x) 2 ∷ []

-- "an accepted start begins a new list, holding only what it was given"
unfoldable pub fresh : Start → State
fresh x =
    record {
      config = x.ns ∷ x.maclt ∷ (x.marks ++ (x.root ++ (0 ∷ [])));
      clocks = replicate clocks_length 0;
      nav = record { words = replicate words_length 0; stamps = replicate stamps_length 0 };
      store = record { blocks = replicate blocks_length 0; headers = replicate dsm_ids 0; present = replicate dsm_ids 0; since = replicate dsm_ids 0 };
      pubkeys = with_key (replicate pubkeys_length 0) x.id x.type (take (key_length x.type) x.key);
      offer = no_offer;
      chain = replicate chain_length 0;
      tesla = record { numbers = 0 ∷ 0 ∷ []; key = replicate heldkey_length 0; waiting = replicate waiting_length 0 };
      auth = record { sets = replicate sets_length 0; arrivals = replicate arrivals_length 0 };
    }

unfoldable pub start_call : State → Start → Told
start_call s x = let code = first_refusal (start_checks s x) in record { code = code; state = unless code (fresh x) s }

-- ---- word

pub record Word : Type 0 where
  pub prn : ℕ
  pub time : ℕ
  pub bytes : List ℕ

-- row 2, word: "PRN, time .. out of range; word 4 SVID not the PRN"
unfoldable pub word_unfit : Word → Bool
word_unfit w =
    any_of
    (not (prn_valid w.prn)
    ∷ not (time_valid w.time)
    ∷ (eqb (word_type w.bytes) 4 && neb (svid_of w.bytes) w.prn)
    ∷ [])

-- "1, 2, 4, 3"; row 3: "word earlier than that PRN's last"
unfoldable pub word_checks : State → Word → List Check
word_checks s w =
    refuse (not (word_shaped s && eqb (length w.bytes) 16)) 1
    ∷ refuse (word_unfit w) 2
    ∷ refuse (stopped s.config) 4
    ∷ refuse (ltb (stamp_of w.time) (last_word_of s.clocks w.prn)) 3
    ∷ []

-- "Types 1 to 5 are held per satellite, others answer 0 and change nothing."
unfoldable pub word_taken : State → Word → State
word_taken s w =
    cond (held_type (word_type w.bytes))
    (with_nav
    (with_clocks s (set s.clocks (36 + w.prn) (stamp_of w.time)))
    (word_stored s.nav w.prn (word_type w.bytes) w.bytes (stamp_of w.time)))
    s

unfoldable pub word_call : State → Word → Told
word_call s w = let code = first_refusal (word_checks s w) in record { code = code; state = unless code (word_taken s w) s }

-- ---- verdict

-- "verdict 1, 2, 4, 14, 15, 11, 9"
unfoldable pub verdict_checks : State → Verdict → List Check
verdict_checks s v =
    refuse (not (verdict_shaped s && (eqb (length v.message) 45 && eqb (length v.signature) 132))) 1
    ∷ refuse (ltb 1 v.good || ltb 15 v.id) 2
    ∷ refuse (stopped s.config) 4
    ∷ vouch_checks s v

-- rows 1, 2 and 4 leave all as before
unfoldable pub verdict_call : State → Verdict → Told
verdict_call s v =
    let code = first_refusal (verdict_checks s v) in
    record { code = code; state = cond (any_of (eqb code 1 ∷ eqb code 2 ∷ eqb code 4 ∷ [])) s (judged_verdict s v code) }

-- ---- sub-frame: the HKROOT half

-- what the HKROOT half leaves; `stops` where a proved emergency message came
pub record HkrootDone : Type 0 where
  pub code : ℕ
  pub stops : Bool
  pub state : State

-- a complete DSM: "IDs 0 to 11 are DSM-KROOT, 12 to 15 DSM-PKR."
unfoldable pub kroot_done : State → Store → ℕ → List ℕ → HkrootDone
kroot_done s store header d =
    let j = kroot_judged s.pubkeys s.config s.offer header d in
    record { code = j.code; stops = false; state = with_offer (with_store s store) j.offer }

-- "A proved emergency message stops the core until a new start"
unfoldable pub pkr_done : State → Store → List ℕ → HkrootDone
pkr_done s store d =
    let j = pkr_judged s.pubkeys (tree_root s.config) d in
    record {
      code = j.code;
      stops = j.stops;
      state = with_pubkeys (with_store (with_config s (cond j.stops (set s.config stopped_at 1) s.config)) store) j.pubkeys;
    }

unfoldable pub store_done : State → Gathered → HkrootDone
store_done s g = record { code = g.code; stops = false; state = with_store s g.store }

unfoldable pub hkroot_half : State → ℕ → List ℕ → HkrootDone
hkroot_half s t hk =
    let g = gathered s.store t hk in
    cond (eqb (length g.dsm) 0)
    (store_done s g)
    (cond (leb (dsm_id_of hk) 11) (kroot_done s g.store (header_of hk) g.dsm) (pkr_done s g.store g.dsm))

-- 02, P3: "17 .. in the HKROOT half when any of its bytes is missing (DSM store unchanged)"; each of the fifteen fields brings one of them
unfoldable pub hkroot_received : State → ℕ → ℕ → List ℕ → HkrootDone
hkroot_received s t marks hk = cond (eqb (fields_came marks 15) 15) (hkroot_half s t hk) (record { code = 17; stops = false; state = s })

-- ---- sub-frame: the MACK half

pub record MackDone : Type 0 where
  pub code : ℕ
  -- the records, 12 bytes each
  pub records : List ℕ
  pub state : State

-- the chain's numbers, and the held key
unfoldable pub chain_of : State → Chain
chain_of s = chain_with (ns_of s.config) (chain_contents s.chain)

unfoldable pub held_of : State → Held
held_of s = held (held_slot s.tesla.numbers) (take (chain_of s).width s.tesla.key)

-- row 11, section: "no chain, status 0 or 3, other CID, before sub-frame 0"
unfoldable pub section_unfit : State → ℕ → ℕ → Bool
section_unfit s t header =
    any_of
    (not (in_force s.config s.chain)
    ∷ not (within 1 2 (status_of header))
    ∷ not (cid_in_force s (cid_of header))
    ∷ ltb (seconds_of t) (chain_of s).root
    ∷ [])

-- "section 11, then block by block 13, 12"; 02, P3: "17, after 5", so before 11 (B9), "in the MACK half when the first of the fifteen fields is"
-- missing
unfoldable pub section_proved : State → ℕ → ℕ → ℕ → ℕ → List ℕ → Proved
section_proved s prn t marks header mack =
    let code = first_refusal (refuse (not (field_came marks 0)) 17 ∷ refuse (section_unfit s t header) 11 ∷ []) in
    unless code
    (keys_received (chain_of s) t prn mack marks (held_of s) (chain_of s).nmack)
    (record { code = code; held = held_of s })

-- "All keys are checked first, then tags in order.": the waiting tags, then the section's own
unfoldable pub tags_worked : State → Held → Section → ℕ → Work
tags_worked s h x marks =
    let c = chain_of s in
    fields_judged s.config s.nav c h x marks (c.nmack * c.fields)
    (dues_judged c h s.tesla.waiting (waiting_count s.tesla.numbers)
    (record { kept = []; count = 0; sets = s.auth.sets; arrivals = s.auth.arrivals; records = [] }))

-- "The highest proved key is then held."
unfoldable pub section_taken : State → Held → Work → State
section_taken s h w =
    with_auth
    (with_tesla s
    (record {
      numbers = h.slot ∷ w.count ∷ [];
      key = filled heldkey_length h.key;
      waiting = splice s.tesla.waiting 0 w.kept;
    }))
    (record { sets = w.sets; arrivals = w.arrivals })

unfoldable pub mack_half : State → ℕ → ℕ → ℕ → ℕ → List ℕ → MackDone
mack_half s prn t marks header mack =
    let p = section_proved s prn t marks header mack in
    let w = tags_worked s p.held (record { prn = prn; time = t; status = status_of header; mack = mack }) marks in
    unless p.code
    (record { code = 0; records = w.records; state = section_taken s p.held w })
    (record { code = p.code; records = []; state = s })

-- ---- sub-frame

pub record Subframe : Type 0 where
  pub prn : ℕ
  pub time : ℕ
  -- which of the fields came (02, P3)
  pub marks : ℕ
  -- 15 fields of five bytes
  pub bytes : List ℕ

-- the fields as they came
abbrev pub fields_of : Subframe → List ℕ
fields_of x = received x.marks x.bytes 15

-- the two numbers, the count of tag records, the state, and the lent record area (3,240 bytes): "bytes past the records stay"
pub record SubframeTold : Type 0 where
  pub hkroot : ℕ
  pub mack : ℕ
  pub count : ℕ
  pub state : State
  pub area : List ℕ

-- "Checks go 1, 2, 4, 3, 5"; row 3: "sub-frame earlier than the last, or not later for its PRN"; 02, P3: "Number 5 is judged on the received fields, if
-- any." (B10)
unfoldable pub subframe_checks : State → List ℕ → Subframe → List Check
subframe_checks s area x =
    refuse (not (shaped s && (eqb (length area) area_length && eqb (length x.bytes) 75))) 1
    ∷ refuse (not (prn_valid x.prn) || not (time_valid x.time)) 2
    ∷ refuse (stopped s.config) 4
    ∷ refuse (ltb (stamp_of x.time) (last_subframe s.clocks) || leb (stamp_of x.time) (last_subframe_of s.clocks x.prn)) 3
    ∷ refuse (neb (fields_came x.marks 15) 0 && same (fields_of x) (replicate 75 0)) 5
    ∷ []

-- "time noted": the last sub-frame over all satellites, and this one's (A10)
unfoldable pub noted : State → Subframe → State
noted s x = with_clocks s (set (set s.clocks 0 (stamp_of x.time)) x.prn (stamp_of x.time))

-- "The HKROOT half goes before the MACK half."; an emergency message's sub-frame "returns 0 and 4, its time noted"
unfoldable pub halves_done : State → List ℕ → Subframe → SubframeTold
halves_done s area x =
    let hk = hkroot_of (fields_of x) 15 in
    let a = hkroot_received s x.time x.marks hk in
    let m = mack_half a.state x.prn x.time x.marks (header_of hk) (mack_of (fields_of x) 15) in
    cond a.stops
    (record { hkroot = a.code; mack = 4; count = 0; state = a.state; area = area })
    (record { hkroot = a.code; mack = m.code; count = length m.records / 12; state = m.state; area = splice area 0 m.records })

-- "1 to 5 stand in both"
unfoldable pub subframe_call : State → List ℕ → Subframe → SubframeTold
subframe_call s area x =
    let code = first_refusal (subframe_checks s area x) in
    unless code
    (halves_done (noted s x) area x)
    (record { hkroot = code; mack = code; count = 0; state = cond (eqb code 5) (noted s x) s; area = area })

-- ---- reads: the state stays as it is

-- a PRN's authentic set in 69 lent bytes, its IODnav and its tag's GST_SF; 0 and 0 where it is refused
pub record SetRead : Type 0 where
  pub code : ℕ
  pub out : List ℕ
  pub issue : ℕ
  pub time : ℕ

unfoldable pub auth_stamp : Auth → ℕ → ℕ
auth_stamp a prn = get_or a.arrivals (prn - 1) 0

unfoldable pub auth_set : Auth → ℕ → List ℕ
auth_set a prn = part a.sets ((prn - 1) * copy_length) 69

-- "its checks go 1, 2, 16"
unfoldable pub set_read_checks : State → ℕ → List ℕ → List Check
set_read_checks s prn out =
    refuse (not (set_shaped s && eqb (length out) 69)) 1
    ∷ refuse (not (prn_valid prn)) 2
    ∷ refuse (eqb (auth_stamp s.auth prn) 0) 16
    ∷ []

unfoldable pub set_read : State → ℕ → List ℕ → SetRead
set_read s prn out =
    let code = first_refusal (set_read_checks s prn out) in
    unless code
    (record {
      code = 0;
      out = auth_set s.auth prn;
      issue = set_issue (auth_set s.auth prn);
      time = auth_stamp s.auth prn - 1;
    })
    (record { code = code; out = out; issue = 0; time = 0 })

-- "A read hands out what waits, with its key's type and bytes (checks 1, 14)." What waits always has its key held; for regions where it has
-- not, the type is the first byte of the place less 1 (0 where it is 0), and the bytes are those of the place (A9).
pub record OfferRead : Type 0 where
  pub code : ℕ
  pub message : List ℕ
  pub signature : List ℕ
  pub key : List ℕ
  pub id : ℕ
  pub type : ℕ

unfoldable pub offer_read_checks : State → List ℕ → List ℕ → List ℕ → List Check
offer_read_checks s message signature key =
    refuse (not (offer_shaped s && (eqb (length message) 45 && (eqb (length signature) 132 && eqb (length key) 67)))) 1
    ∷ refuse (not (offer_waits s.offer)) 14
    ∷ []

unfoldable pub offer_read : State → List ℕ → List ℕ → List ℕ → OfferRead
offer_read s message signature key =
    let code = first_refusal (offer_read_checks s message signature key) in
    let id = offer_id s.offer in
    unless code
    (record {
      code = 0;
      message = offer_message s.offer;
      signature = offer_signature s.offer;
      key = key_bytes s.pubkeys id;
      id = id;
      type = key_type s.pubkeys id;
    })
    (record { code = code; message = message; signature = signature; key = key; id = 0; type = 0 })

-- whether four satellites have an authentic set that is recent (02, P5): 1 yes, 0 no; 0 where it is refused
pub record FourRead : Type 0 where
  pub code : ℕ
  pub yes : ℕ

unfoldable pub four_read_checks : State → List Check
four_read_checks s = refuse (not (four_shaped s)) 1 ∷ []

unfoldable pub four_read : State → ℕ → FourRead
four_read s limit =
    let code = first_refusal (four_read_checks s) in
    unless code (record { code = 0; yes = cond (four_met s limit) 1 0 }) (record { code = code; yes = 0 })

-- how far along each message is (02, P9): the pairs of the sixteen DSM IDs in 32 lent bytes, which stay as they are where it is refused
pub record ProgressRead : Type 0 where
  pub code : ℕ
  pub out : List ℕ

unfoldable pub progress_read_checks : State → List ℕ → List Check
progress_read_checks s out = refuse (not (progress_shaped s && eqb (length out) 32)) 1 ∷ []

unfoldable pub progress_read : State → List ℕ → ProgressRead
progress_read s out =
    let code = first_refusal (progress_read_checks s out) in
    unless code (record { code = 0; out = pairs_of s.store dsm_ids }) (record { code = code; out = out })
