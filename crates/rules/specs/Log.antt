-- Lists of calls after an accepted start, and what their history says (01, "Demand 3 is one claim about the whole list").
-- A log holds each call with its reply, newest first. Every history function reads calls and replies alone; `state_at` is the one place that
-- names a state: the one that the log's calls leave.
use Rattle.std.specs.Prelude.{ℕ, zero, suc, ◌*◌, Bool, false, cond, ◌&&◌, List, [], ◌∷◌, eqb, replicate}
use Rattle.std.proofs.Math.Option.{Option, none, some}
use Rattle.laws.specs.Lists.{part}
use Rattle.rules.specs.Bits.{within}
use Rattle.rules.specs.Calls.{Start, Word, Subframe, SetRead, OfferRead, FourRead, ProgressRead, start_call, word_call, subframe_call, verdict_call, set_read, offer_read, four_read, progress_read}
use Rattle.rules.specs.Gather.{status_of, cid_of}
use Rattle.rules.specs.Kroot.{cidkr_of}
use Rattle.rules.specs.Navdata.{Came, word_type}
use Rattle.rules.specs.State.{State}
use Rattle.rules.specs.Times.{stamp_of}
use Rattle.rules.specs.Verdict.{Verdict, message_header, message_contents, chain_unchanged}

-- what a call that only asks wants to know, with what is lent for the answer
pub data Question : Type 0 where
  -- a PRN's authentic set: PRN, and the 69 lent bytes
  set : ℕ → List ℕ → Question
  -- what waits: the lent bytes for message, signature and key
  offer : List ℕ → List ℕ → List ℕ → Question
  -- whether four satellites have an authentic set: the age limit in sub-frames (02, P5)
  four : ℕ → Question
  -- how far along each message is: the 32 lent bytes (02, P9)
  progress : List ℕ → Question

-- a call with all that is lent to it; "Every call that only asks counts as a read."
pub data Call : Type 0 where
  start : Start → Call
  word : Word → Call
  -- the lent record area, and the sub-frame
  subframe : List ℕ → Subframe → Call
  verdict : Verdict → Call
  ask : Question → Call

-- what a read of what waits hands out
pub record Handed : Type 0 where
  pub message : List ℕ
  pub signature : List ℕ
  pub key : List ℕ
  pub id : ℕ
  pub type : ℕ

abbrev pub nothing : Handed
nothing = record { message = []; signature = []; key = []; id = 0; type = 0 }

pub record Reply : Type 0 where
  -- the number returned; of a sub-frame, the HKROOT half's
  pub code : ℕ
  -- the MACK half's number, 0 unless a sub-frame
  pub mack : ℕ
  -- the tag records that the call wrote, 12 bytes each
  pub records : List ℕ
  -- what a read of a set gave: its 69 bytes, its IODnav, and its tag's GST_SF; or, in `out`, the pairs that tell how far along each message is
  pub out : List ℕ
  pub issue : ℕ
  pub time : ℕ
  -- what a read of what waits handed out
  pub handed : Handed
  -- the answer to a question for yes (1) or no (0)
  pub yes : ℕ

abbrev pub plain : ℕ → Reply
plain code = record { code = code; mack = 0; records = []; out = []; issue = 0; time = 0; handed = nothing; yes = 0 }

-- of a sub-frame: both numbers, and so many records out of the lent area
abbrev pub subframe_reply : ℕ → ℕ → ℕ → List ℕ → Reply
subframe_reply hkroot mack count area =
    record {
      code = hkroot;
      mack = mack;
      records = part area 0 (12 * count);
      out = [];
      issue = 0;
      time = 0;
      handed = nothing;
      yes = 0;
    }

-- of the calls that only ask
abbrev pub set_reply : SetRead → Reply
set_reply r = record { code = r.code; mack = 0; records = []; out = r.out; issue = r.issue; time = r.time; handed = nothing; yes = 0 }

abbrev pub offer_reply : OfferRead → Reply
offer_reply r =
    record {
      code = r.code;
      mack = 0;
      records = [];
      out = [];
      issue = 0;
      time = 0;
      handed = record { message = r.message; signature = r.signature; key = r.key; id = r.id; type = r.type };
      yes = 0;
    }

abbrev pub four_reply : FourRead → Reply
four_reply r = record { code = r.code; mack = 0; records = []; out = []; issue = 0; time = 0; handed = nothing; yes = r.yes }

abbrev pub progress_reply : ProgressRead → Reply
progress_reply r = record { code = r.code; mack = 0; records = []; out = r.out; issue = 0; time = 0; handed = nothing; yes = 0 }

-- a call's reply, and the state that it leaves
pub record Stepped : Type 0 where
  pub reply : Reply
  pub state : State

-- a read: the state stays as it is
unfoldable pub asked : State → Question → Reply
asked s (set prn out) = set_reply (set_read s prn out)
asked s (offer message signature key) = offer_reply (offer_read s message signature key)
asked s (four limit) = four_reply (four_read s limit)
asked s (progress out) = progress_reply (progress_read s out)

-- one call
unfoldable pub step : State → Call → Stepped
step s (start x) = let r = start_call s x in record { reply = plain r.code; state = r.state }
step s (word w) = let r = word_call s w in record { reply = plain r.code; state = r.state }
step s (subframe area x) = let r = subframe_call s area x in record { reply = subframe_reply r.hkroot r.mack r.count r.area; state = r.state }
step s (verdict v) = let r = verdict_call s v in record { reply = plain r.code; state = r.state }
step s (ask q) = record { reply = asked s q; state = s }

-- ---- the log

pub record Entry : Type 0 where
  pub call : Call
  pub reply : Reply

-- newest first
abbrev pub Log : Type 0
Log = List Entry

-- P was so of an entry of the log, and of what is older than it
pub data Once (P : Entry → Log → Type 0) : Log → Type 0 where
  here : {x : Entry} {l : Log} → P x l → Once P (x ∷ l)
  earlier : {x : Entry} {l : Log} → Once P l → Once P (x ∷ l)

-- P is so of every entry, and of what is older than it
abbrev pub Always : (Entry → Log → Type 0) → Log → Type 0
Always P [] = Unit {0}
Always P (x ∷ l) = P x l × Always P l

-- the accepted start that a list began with, the state that it left, and the log since
pub record History : Type 0 where
  pub origin : Start
  pub began : State
  pub log : Log

abbrev pub longer : History → Entry → History
longer h x = record { origin = h.origin; began = h.began; log = x ∷ h.log }

-- "an accepted start begins a new list": by the call, its number and reply, and the state that it left
abbrev pub advanced : History → Call → ℕ → Reply → State → History
advanced h (start x) zero r s = record { origin = x; began = s; log = [] }
advanced h (start x) (suc n) r s = longer h (record { call = start x; reply = r })
advanced h (word w) n r s = longer h (record { call = word w; reply = r })
advanced h (subframe area x) n r s = longer h (record { call = subframe area x; reply = r })
advanced h (verdict v) n r s = longer h (record { call = verdict v; reply = r })
advanced h (ask q) n r s = longer h (record { call = ask q; reply = r })

-- the state and the history after a list of calls
pub record Ran : Type 0 where
  pub state : State
  pub history : History

-- "Each call gets the state that the last one, or the accepted start, left"
unfoldable pub ran : State → History → List Call → Ran
ran s h [] = record { state = s; history = h }
ran s h (c ∷ cs) = let r = step s c in ran r.state (advanced h c r.reply.code r.reply r.state) cs

-- from the state that a start left; s is what the regions held before it
unfoldable pub ran_from : State → Start → List Call → Ran
ran_from s x calls = ran (start_call s x).state (record { origin = x; began = (start_call s x).state; log = [] }) calls

-- the state at a place of the log, from the one that the start left
unfoldable pub state_at : State → Log → State
state_at s [] = s
state_at s (x ∷ l) = (step (state_at s l) x.call).state

-- ---- what an entry says: a call, or a half of one, that was answered 0

abbrev pub word_answered : ℕ → Call → Option Word
word_answered zero (word w) = some w
word_answered zero (start x) = none
word_answered zero (subframe area x) = none
word_answered zero (verdict v) = none
word_answered zero (ask q) = none
word_answered (suc n) c = none

abbrev pub verdict_answered : ℕ → Call → Option Verdict
verdict_answered zero (verdict v) = some v
verdict_answered zero (start x) = none
verdict_answered zero (word w) = none
verdict_answered zero (subframe area x) = none
verdict_answered zero (ask q) = none
verdict_answered (suc n) c = none

abbrev pub subframe_answered : ℕ → Call → Option Subframe
subframe_answered zero (subframe area x) = some x
subframe_answered zero (start x) = none
subframe_answered zero (word w) = none
subframe_answered zero (verdict v) = none
subframe_answered zero (ask q) = none
subframe_answered (suc n) c = none

-- a word answered 0
abbrev pub word_in : Entry → Option Word
word_in x = word_answered x.reply.code x.call

-- a verdict answered 0
abbrev pub verdict_in : Entry → Option Verdict
verdict_in x = verdict_answered x.reply.code x.call

-- a sub-frame whose HKROOT half was answered 0
abbrev pub hkroot_in : Entry → Option Subframe
hkroot_in x = subframe_answered x.reply.code x.call

-- a sub-frame whose section, the MACK half, was answered 0
abbrev pub section_in : Entry → Option Subframe
section_in x = subframe_answered x.reply.mack x.call

-- the time of a sub-frame, if it was noted: "Numbers 1 to 4, save that 4, touch no clock.", where that 4 is the MACK half's of an emergency message,
-- whose HKROOT half is 0. The HKROOT number tells: 1 to 4 "stand in both", and that half itself answers none of them (proofs/Clocks.antt)
abbrev pub time_noted : ℕ → Call → Option ℕ
time_noted n (subframe area x) = cond (within 1 4 n) none (some x.time)
time_noted n (start x) = none
time_noted n (word w) = none
time_noted n (verdict v) = none
time_noted n (ask q) = none

abbrev pub noted_in : Entry → Option ℕ
noted_in x = time_noted x.reply.code x.call

-- ---- what the history says

abbrev pub noted_after : Option ℕ → Option ℕ → Option ℕ
noted_after none o = o
noted_after (some t) o = some t

-- "the last noted sub-frame time" (02, P5)
abbrev pub last_noted : Log → Option ℕ
last_noted [] = none
last_noted (x ∷ l) = noted_after (noted_in x) (last_noted l)

-- no word of the type came: the stamp 0 says so, and the bytes are not looked at
abbrev pub no_word : Came
no_word = record { bytes = replicate 16 0; stamp = 0 }

abbrev pub word_after : Option Word → ℕ → ℕ → Came → Came
word_after none prn kind o = o
word_after (some w) prn kind o = cond (eqb w.prn prn && eqb (word_type w.bytes) kind) (record { bytes = w.bytes; stamp = stamp_of w.time }) o

-- "the last word answered 0 of each type 1 to 5": of a PRN and a type
abbrev pub last_word : Log → ℕ → ℕ → Came
last_word [] prn kind = no_word
last_word (x ∷ l) prn kind = word_after (word_in x) prn kind (last_word l prn kind)

-- what a verdict answered 0 does to the chain in force: status 3 ends it, status 1 or 2 with CIDKR equal to CID begins it, another leaves it
abbrev pub forced_by : Verdict → Option Verdict → Option Verdict
forced_by v o =
    let header = message_header v.message in
    cond (eqb (status_of header) 3) none
    (cond (within 1 2 (status_of header) && eqb (cidkr_of (message_contents v.message)) (cid_of header)) (some v) o)

abbrev pub chain_after : Option Verdict → Option Verdict → Option Verdict
chain_after none o = o
chain_after (some v) o = forced_by v o

-- the verdict whose message is in force: "from the message of the last verdict answered 0 with status 1 or 2 and CIDKR equal to CID, none of
-- status 3 answered 0 since"
abbrev pub chain_in : Log → Option Verdict
chain_in [] = none
chain_in (x ∷ l) = chain_after (verdict_in x) (chain_in l)

-- ---- since when a chain is in force (01, waiting tags; 02, P4)

-- the chain in force stays over this verdict: "unchanged (CID, parameters, α)"
abbrev pub stays_over : Option Verdict → Verdict → Bool
stays_over none v = false
stays_over (some u) v = chain_unchanged (message_contents u.message) (message_contents v.message)

-- "A new chain or a drop": a verdict answered 0 that ends a chain, or begins another than the one in force
abbrev pub turned_by : Verdict → Option Verdict → ℕ → ℕ
turned_by v o n =
    let header = message_header v.message in
    cond (eqb (status_of header) 3) (suc n)
    (cond (within 1 2 (status_of header) && eqb (cidkr_of (message_contents v.message)) (cid_of header)) (cond (stays_over o v) n (suc n)) n)

abbrev pub turns_after : Option Verdict → Option Verdict → ℕ → ℕ
turns_after none o n = n
turns_after (some v) o n = turned_by v o n

-- how often the tags that wait and the candidates went: at a new chain and at a drop. While this number stays, the chain in force does
abbrev pub chain_turns : Log → ℕ
chain_turns [] = 0
chain_turns (x ∷ l) = turns_after (verdict_in x) (chain_in l) (chain_turns l)
