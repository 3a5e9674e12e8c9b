-- The replay program (01, "The replay program"): the records of a recorded run as calls, and the calls' answers as lines of text.
-- `replayed` is one record, `replay` a whole input. Text is a list of ASCII bytes.
use Rattle.std.specs.Prelude.{ℕ, zero, suc, ◌+◌, ◌*◌, ◌/◌, ◌%◌, cond, ◌||◌, List, [], ◌∷◌, ◌++◌, ltb, eqb, length, get_or, replicate}
use Rattle.laws.specs.Bytes.{u32at}
use Rattle.laws.specs.Lists.{part}
use Rattle.laws.specs.Refusal.{unless, neb}
use Rattle.rules.specs.Calls.{Start, Word, Subframe, start_call, word_call, subframe_call, verdict_call}
use Rattle.rules.specs.State.{State}
use Rattle.rules.specs.State.{config_length, clocks_length, words_length, stamps_length, blocks_length, dsm_ids, pubkeys_length, offer_length, chain_length, numbers_length, heldkey_length, waiting_length, sets_length, arrivals_length, area_length}
use Rattle.rules.specs.Verdict.{Verdict}

-- ---- a record as a call

-- "It reads 256-byte records, no header"
abbrev pub record_length : ℕ
record_length = 256

-- "byte 0 is the kind"
unfoldable pub kind_of : List ℕ → ℕ
kind_of r = get_or r 0 0

-- "1 start: NS, key ID, type, MACLT, 14 + 14 marks, tree root 32, key 67."
unfoldable pub start_of : List ℕ → Start
start_of r =
    record { ns = get_or r 1 0; id = get_or r 2 0; type = get_or r 3 0; maclt = get_or r 4 0; marks = part r 5 28; root = part r 33 32; key = part r 65 67 }

-- "2 word: PRN, GST_SF, 16 bytes."
unfoldable pub word_of : List ℕ → Word
word_of r = record { prn = get_or r 1 0; time = u32at r 2; bytes = part r 6 16 }

-- 02, P3: "in replay records of kind 3 all are 1, and kind 6, else the same, carries them in bytes 81 and 82, bit 0 first"
unfoldable pub marks_of : List ℕ → ℕ
marks_of r = cond (eqb (kind_of r) 6) (get_or r 81 0 * 256 + get_or r 82 0) 65535

-- "3 sub-frame: PRN, GST_SF, 75 bytes."
unfoldable pub subframe_of : List ℕ → Subframe
subframe_of r = record { prn = get_or r 1 0; time = u32at r 2; marks = marks_of r; bytes = part r 6 75 }

-- "4 verdict: 0 or 1, key ID, message 45, signature 132."
unfoldable pub verdict_of : List ℕ → Verdict
verdict_of r = record { good = get_or r 1 0; id = get_or r 2 0; message = part r 3 45; signature = part r 48 132 }

-- ---- the answers to a record

-- the core, the area for tag records that is lent to every sub-frame, and whether a start was accepted: 0 until then, 1 after
pub record Session : Type 0 where
  pub core : State
  pub area : List ℕ
  pub started : ℕ

-- the two answers, the count of tag records, and what the record leaves
pub record Answered : Type 0 where
  pub first : ℕ
  pub second : ℕ
  pub count : ℕ
  pub next : Session

-- "second 0 unless a sub-frame": one number, and the core that the call leaves
abbrev pub single : Session → ℕ → State → Answered
single s n core = record { first = n; second = 0; count = 0; next = record { core = core; area = s.area; started = s.started } }

-- numbers that the program gives itself: no call is made, and nothing changes
abbrev pub uncalled : Session → ℕ → ℕ → Answered
uncalled s n m = record { first = n; second = m; count = 0; next = s }

unfoldable pub start_answered : Session → List ℕ → Answered
start_answered s r =
    let t = start_call s.core (start_of r) in
    record { first = t.code; second = 0; count = 0; next = record { core = t.state; area = s.area; started = unless t.code 1 s.started } }

-- "anything of kinds 2 to 4 before a start 11": before the first accepted one (A76)
unfoldable pub word_answered : Session → List ℕ → Answered
word_answered s r =
    let t = word_call s.core (word_of r) in
    cond (eqb s.started 0) (uncalled s 11 0) (single s t.code t.state)

-- "(twice for a sub-frame)"
unfoldable pub subframe_answered : Session → List ℕ → Answered
subframe_answered s r =
    let t = subframe_call s.core s.area (subframe_of r) in
    cond (eqb s.started 0)
    (uncalled s 11 11)
    (record { first = t.hkroot; second = t.mack; count = t.count; next = record { core = t.state; area = t.area; started = s.started } })

unfoldable pub verdict_answered : Session → List ℕ → Answered
verdict_answered s r =
    let t = verdict_call s.core (verdict_of r) in
    cond (eqb s.started 0) (uncalled s 11 0) (single s t.code t.state)

-- "A last record under 256 bytes is 1 and 0" whatever its kind (A77), "another kind 2", before a start too (A78)
unfoldable pub answered : Session → List ℕ → Answered
answered s r =
    cond (neb (length r) record_length) (uncalled s 1 0)
    (cond (eqb (kind_of r) 1) (start_answered s r)
    (cond (eqb (kind_of r) 2) (word_answered s r)
    (cond (eqb (kind_of r) 3 || eqb (kind_of r) 6) (subframe_answered s r)
    (cond (eqb (kind_of r) 4) (verdict_answered s r)
    (uncalled s 2 0)))))

-- ---- lines

abbrev pub space : ℕ
space = 32

abbrev pub line_feed : ℕ
line_feed = 10

-- the character of a digit, 10 to 15 as capitals
unfoldable pub digit : ℕ → ℕ
digit d = cond (ltb d 10) (48 + d) (55 + d)

-- the decimal digits of n without leading zeros, none for 0; k bounds how many
unfoldable pub digits_of : ℕ → ℕ → List ℕ
digits_of zero n = []
digits_of (suc k) n = let digits = digits_of k (n / 10) ++ (digit (n % 10) ∷ []) in cond (eqb n 0) [] digits

-- n in decimal: its last digit behind those before it, at most n of them
unfoldable pub decimal : ℕ → List ℕ
decimal n = digits_of n (n / 10) ++ (digit (n % 10) ∷ [])

-- bytes "as .. hexadecimal digits in capitals", two a byte
unfoldable pub hexadecimal : List ℕ → List ℕ
hexadecimal [] = []
hexadecimal (b ∷ bs) = digit (b / 16) ∷ digit (b % 16) ∷ hexadecimal bs

-- a number and the character that ends it
unfoldable pub ended : ℕ → ℕ → List ℕ
ended n c = decimal n ++ (c ∷ [])

-- "a line: its place in the input from 1, two answers .. and the tag record count, parted by single spaces"; every line ends with one line feed
-- (A81)
unfoldable pub answer_line : ℕ → ℕ → ℕ → ℕ → List ℕ
answer_line place first second count = ended place space ++ (ended first space ++ (ended second space ++ ended count line_feed))

-- "each tag record on a line of its own as 24 hexadecimal digits in capitals": the record at place k of the area, from 0
unfoldable pub record_line : List ℕ → ℕ → List ℕ
record_line area k = hexadecimal (part area (k * 12) 12) ++ (line_feed ∷ [])

-- the lines of the first n tag records
unfoldable pub record_lines : List ℕ → ℕ → List ℕ
record_lines area zero = []
record_lines area (suc n) = record_lines area n ++ record_line area n

-- "Per record it prints a line ..; then each tag record on a line of its own"
unfoldable pub lines_of : ℕ → ℕ → ℕ → ℕ → List ℕ → List ℕ
lines_of place first second count area = answer_line place first second count ++ record_lines area count

-- ---- one record, and a whole input

-- what the program keeps between records: the session, and how many records it has read
pub record Replay : Type 0 where
  pub session : Session
  pub place : ℕ

-- the lines of a record, and what is kept for the next
pub record Replayed : Type 0 where
  pub lines : List ℕ
  pub next : Replay

unfoldable pub replayed : Replay → List ℕ → Replayed
replayed s r =
    let a = answered s.session r in
    let place = s.place + 1 in
    record {
      lines = lines_of place a.first a.second a.count a.next.area;
      next = record { session = a.next; place = place };
    }

-- the first n records of an input
unfoldable pub replayed_up_to : Replay → List ℕ → ℕ → Replayed
replayed_up_to s input zero = record { lines = []; next = s }
replayed_up_to s input (suc n) =
    let before = replayed_up_to s input n in
    let here = replayed before.next (part input (n * record_length) record_length) in
    record { lines = before.lines ++ here.lines; next = here.next }

-- how many records an input has, a last one under 256 bytes among them
unfoldable pub record_count : List ℕ → ℕ
record_count input = (length input + 255) / record_length

-- regions of zeros; a start takes regions of any contents
unfoldable pub blank_core : State
blank_core =
    record {
      config = replicate config_length 0;
      clocks = replicate clocks_length 0;
      nav = record { words = replicate words_length 0; stamps = replicate stamps_length 0 };
      store = record { blocks = replicate blocks_length 0; headers = replicate dsm_ids 0; present = replicate dsm_ids 0; since = replicate dsm_ids 0 };
      pubkeys = replicate pubkeys_length 0;
      offer = replicate offer_length 0;
      chain = replicate chain_length 0;
      tesla = record { numbers = replicate numbers_length 0; key = replicate heldkey_length 0; waiting = replicate waiting_length 0 };
      auth = record { sets = replicate sets_length 0; arrivals = replicate arrivals_length 0 };
    }

-- before the first record
unfoldable pub unread : Replay
unread = record { session = record { core = blank_core; area = replicate area_length 0; started = 0 }; place = 0 }

-- what the program prints for an input of any length
unfoldable pub replay : List ℕ → List ℕ
replay input = (replayed_up_to unread input (record_count input)).lines
